-- `array_room` measures an array: 6 bytes and those of its units.
use mathlib.Core.Path.{sym, ap}
use native.Mathlib.Omega.{arith}
use Rattle.parse.specs.Parse.{value, refused, times}
use Rattle.boxes.specs.Bytes.{chunk}
use Rattle.counted_units.specs.inner.Counted.{units_in_list, room_taken}
use Rattle.counted_units.proofs.Repeated.{RoomAt, room_short, room_at}
use Rattle.record_arrays_read.specs.inner.Arrays.{array_in_list}
use Rattle.record_arrays_read.proofs.RecordArrays.{HeadAt, head_short, head_at, array_refused, array_room}
use Rattle.record_arrays_read.proofs.room.array_room.Goals as goal

pub returns-in_err-head : goal.returns-in_err-head
returns-in_err-head c =
    let a = c.args in
    rw c.from_residual.ensures (
      sym (ap (room_taken array_in_list a.«record».now 0)
          (array_refused a.codec a.«record».now a.at 1
          (head_short a.codec a.«record».now a.at c.array_head.result c.array_head.ensures c.in_err-head.was))),
      tt,
    )

pub returns-in_err-room : goal.returns-in_err-room
returns-in_err-room c =
    let a = c.args in
    let h : HeadAt a.codec a.«record».now a.at c.in_ok-head.head c.in_ok-head.units =
    head_at _ _ _ c.array_head.result c.array_head.ensures _ _ c.in_ok-head.was in
    rw c.from_residual-in_err-room.ensures (
      array_room a.codec a.«record».now a.at _ _ h.read (refused 1)
          (room_short a.«record».now _ _ c.units_room.result c.units_room.ensures c.in_err-room.was),
      tt,
    )

pub returns : goal.returns
returns c =
    let a = c.args in
    let h : HeadAt a.codec a.«record».now a.at c.in_ok-head.head c.in_ok-head.units =
    head_at _ _ _ c.array_head.result c.array_head.ensures _ _ c.in_ok-head.was in
    let r : RoomAt a.«record».now c.in_ok-head.units
    (room_taken units_in_list a.«record».now 0
    (times c.in_ok-head.head.count (chunk 2) a.«record».now c.in_ok-head.units))
    c.in_ok-room.room c.in_ok-room.ends =
    room_at _ _ _ c.units_room.result c.units_room.ensures _ _ c.in_ok-room.was in
    (array_room a.codec a.«record».now a.at _ _ h.read (value _ _) r.read, (r.inside, omega arith))
