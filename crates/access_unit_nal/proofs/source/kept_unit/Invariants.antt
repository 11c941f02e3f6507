-- `source::kept_unit` finds kept unit k of an item. Invariant: more than `skip` units are left, and unit `skip` of them is unit k.
use Prim.Native.Nat.{◌-◌, ◌≤◌, ◌<◌}
use mathlib.Core.Path.{◌≡◌}
use lib.ListN.{length}
use Rattle.boxes.specs.Walk.{found}
use Rattle.boxes.proofs.Walk.{total}
use Rattle.access_unit.specs.inner.Gathered.{kept_left}
use Rattle.access_unit_nal.proofs.source.kept_unit.Given as goal

abbrev pub invariant-loop-step : goal.invariant-loop-step
invariant-loop-step l = (l.at ≤ length l.item) × (l.skip < total (kept_left l.size l.target l.item l.at))
    × (found (kept_left l.size l.target l.item l.at) l.skip ≡ found (kept_left l.size l.target l.item 0) l.k)

abbrev pub decreases-loop-step : goal.decreases-loop-step
decreases-loop-step l = length l.item - l.at
