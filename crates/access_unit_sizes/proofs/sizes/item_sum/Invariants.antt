-- `sizes::item_sum` sums the kept units of an item. Invariant: the sum is that of the units passed, and those left follow them.
use Prim.Native.Nat.{◌-◌, ◌≤◌}
use lib.ListN.{length}
use Rattle.access_unit.specs.inner.Gathered.{kept_left}
use Rattle.access_unit_sizes.specs.inner.Sizes.{item_sum}
use Rattle.access_unit_sizes.proofs.Sums.{Summing}
use Rattle.access_unit_sizes.proofs.sizes.item_sum.Given as goal

abbrev pub invariant-loop-step : goal.invariant-loop-step
invariant-loop-step l = (l.at ≤ length l.item) × Summing (item_sum l.item) (kept_left l.size l.target l.item 0) (kept_left l.size l.target l.item l.at) l.sum l.at

abbrev pub decreases-loop-step : goal.decreases-loop-step
decreases-loop-step l = length l.item - l.at
