-- `walk::step` returns the next unit after the cursor. The loop's invariant: the same units are left after `here` as after `c`.
use Prim.Native.Nat.{◌-◌, ◌≤◌}
use mathlib.Core.Path.{◌≡◌}
use lib.ListN.{length}
use Rattle.unit_list.specs.inner.Walk.{Fits, typed_units_from}
use Rattle.unit_list.proofs.walk.step.Given as goal

abbrev pub invariant-loop-here : goal.invariant-loop-here
invariant-loop-here l = Fits l.list l.here × (typed_units_from l.list l.here ≡ typed_units_from l.list l.initial.here) × (l.initial.here.at ≤ l.here.at) × (l.here.width ≡ l.initial.here.width)

abbrev pub decreases-loop-here : goal.decreases-loop-here
decreases-loop-here l = length l.list - l.here.end
