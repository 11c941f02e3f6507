-- `units::put_units` stores the units. Invariant: those stored and those left are the whole.
use Prim.Native.Nat.{◌-◌, ◌≤◌}
use lib.ListN.{length}
use Rattle.parse.specs.Parse.{times}
use Rattle.boxes.specs.Bytes.{chunk}
use Rattle.counted_units.specs.inner.Counted.{units_in_list}
use Rattle.counted_units.proofs.Repeated.{Storing}
use Rattle.counted_units.proofs.UnitsInList.{unit_in_list, units_none, units_more}
use Rattle.counted_units.proofs.units.put_units.Given as goal

abbrev pub invariant-loop : goal.invariant-loop
invariant-loop l = (l.at ≤ length l.record)
    × Storing (chunk l.width) unit_in_list units_in_list units_none units_more l.record l.initial.out l.to (times l.count (chunk l.width) l.record l.from) (l.count - l.counter) l.at l.out l.next
