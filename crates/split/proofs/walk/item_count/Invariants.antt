-- `walk::item_count` counts the units of an item. The loop's invariant: those passed and those left are all.
use Prim.Native.Nat.{◌-◌, ◌≤◌}
use mathlib.Core.Path.{◌≡◌}
use lib.ListN.{length}
use Rattle.boxes.specs.Walk.{count_found}
use Rattle.boxes.proofs.Walk.{plus}
use Rattle.split.specs.inner.Walk.{item_units_from}
use Rattle.split.proofs.walk.item_count.Given as goal

abbrev pub invariant-loop-step : goal.invariant-loop-step
invariant-loop-step l = (l.at ≤ length l.item) × (l.n ≤ l.at) × (plus l.n (count_found (item_units_from l.size l.item l.at)) ≡ count_found (item_units_from l.size l.item 0))

abbrev pub decreases-loop-step : goal.decreases-loop-step
decreases-loop-step l = length l.item - l.at
