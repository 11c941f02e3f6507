-- `units::units_room` measures the units. Invariant: those passed and those left are the whole.
use Prim.Native.Nat.{◌+◌, ◌-◌, ◌*◌, ◌≤◌}
use mathlib.Core.Path.{◌≡◌}
use lib.ListN.{length}
use Rattle.parse.specs.Parse.{times}
use Rattle.boxes.specs.Bytes.{chunk}
use Rattle.counted_units.specs.inner.Counted.{units_in_list, room_taken}
use Rattle.counted_units.proofs.units.units_room.Given as goal

abbrev pub invariant-loop : goal.invariant-loop
invariant-loop l = (l.at ≤ length l.record) × (l.from * 6 + l.room ≤ l.at * 6) × (room_taken units_in_list l.record l.room (times (l.count - l.counter) (chunk l.width) l.record l.at)
    ≡ room_taken units_in_list l.record 0 (times l.count (chunk l.width) l.record l.from))
