-- `arrays_room` measures the arrays of a record. Invariant: those passed and those left are the whole.
use Prim.Native.Nat.{◌+◌, ◌-◌, ◌*◌, ◌≤◌}
use mathlib.Core.Path.{◌≡◌}
use lib.ListN.{length}
use Rattle.parse.specs.Parse.{times}
use Rattle.record_arrays.specs.Read.{record_array}
use Rattle.counted_units.specs.inner.Counted.{room_taken}
use Rattle.record_arrays_read.specs.inner.Arrays.{arrays_in_list}
use Rattle.record_arrays_read.proofs.room.arrays_room.Given as goal

abbrev pub invariant-loop : goal.invariant-loop
invariant-loop l = (l.at ≤ length l.record) × (l.from * 6 + l.room ≤ l.at * 6) × (room_taken arrays_in_list l.record l.room (times (l.count - l.counter) (record_array l.codec) l.record l.at)
    ≡ room_taken arrays_in_list l.record 0 (times l.count (record_array l.codec) l.record l.from))
