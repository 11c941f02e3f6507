-- `stream::put_units` stores the units that are left of a walk. Invariant: those stored and those left are the whole.
use Prim.Native.Nat.{◌-◌}
use mathlib.Core.Path.{◌≡◌}
use lib.ListN.{length}
use Rattle.unit_list.specs.inner.Walk.{units_left}
use Rattle.access_unit_annex_b.proofs.Storing.{Remaining}
use Rattle.access_unit_annex_b.proofs.stream.put_units.Given as goal

abbrev pub invariant-loop-unit : goal.invariant-loop-unit
invariant-loop-unit l = let f = l.fn.walk in (l.walk.list ≡ f.list)
    × Remaining l.codes f.list.now l.initial.out l.to (units_left f.list.now f.cursor) (units_left f.list.now l.walk.cursor) l.out l.end

abbrev pub decreases-loop-unit : goal.decreases-loop-unit
decreases-loop-unit l = length l.fn.walk.list.now - l.walk.cursor.at
