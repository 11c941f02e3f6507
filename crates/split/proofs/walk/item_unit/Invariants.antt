-- `walk::item_unit` finds unit k of an item. The loop's invariant: what is left has more than `skip` units, and unit `skip` of it is unit k.
use Prim.Native.Nat.{◌-◌, ◌≤◌, ◌<◌}
use mathlib.Core.Path.{◌≡◌}
use lib.ListN.{length}
use Rattle.boxes.specs.Walk.{found}
use Rattle.boxes.proofs.Walk.{total}
use Rattle.split.specs.inner.Walk.{item_units_from}
use Rattle.split.proofs.walk.item_unit.Given as goal

abbrev pub invariant-loop-step : goal.invariant-loop-step
invariant-loop-step l = (l.at ≤ length l.item) × (l.skip < total (item_units_from l.size l.item l.at)) × (found (item_units_from l.size l.item l.at) l.skip ≡ found (item_units_from l.size l.item 0) l.k)

abbrev pub decreases-loop-step : goal.decreases-loop-step
decreases-loop-step l = length l.item - l.at
