-- `sizes::units_sum` sums the units that are left of a walk. Invariant: the sum is that of the units passed, and those left follow them.
use Prim.Native.Nat.{◌-◌}
use mathlib.Core.Path.{◌≡◌}
use lib.ListN.{length}
use Rattle.unit_list.specs.inner.Walk.{units_left}
use Rattle.access_unit_sizes.specs.inner.Sizes.{list_sum}
use Rattle.access_unit_sizes.proofs.Sums.{Summing}
use Rattle.access_unit_sizes.proofs.sizes.units_sum.Given as goal

abbrev pub invariant-loop-unit : goal.invariant-loop-unit
invariant-loop-unit l = let f = l.fn.walk in (l.walk.list ≡ f.list)
    × Summing (list_sum f.list.now) (units_left f.list.now f.cursor) (units_left f.list.now l.walk.cursor) l.sum l.walk.cursor.at

abbrev pub decreases-loop-unit : goal.decreases-loop-unit
decreases-loop-unit l = length l.fn.walk.list.now - l.walk.cursor.at
