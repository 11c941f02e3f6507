-- `arrays_room` measures the arrays of a record. Invariant: those passed and those left are the whole.
use Prim.Native.Nat.{◌+◌, ◌-◌}
use mathlib.Core.Path.{sym, ap, ◌∙◌}
use native.Mathlib.Omega.{arith}
use Rattle.record_arrays.specs.Read.{record_array}
use Rattle.counted_units.specs.inner.Counted.{room_taken}
use Rattle.record_arrays_read.specs.inner.Arrays.{array_in_list, arrays_in_list}
use Rattle.counted_units.proofs.Repeated.{room_found, room_refused, RoomAt, room_short, room_at, times_refused, room_next, room_done}
use Rattle.record_arrays_read.proofs.RecordArrays.{arrays_none, arrays_more}
use Rattle.record_arrays_read.proofs.room.arrays_room.Goals as goal

pub returns-in_err-more : goal.returns-in_err-more
returns-in_err-more c =
    let k = record_array c.args.codec in
    let s = c.args.«record».now in
    let e = room_refused array_in_list s (k s c.loop.at) 1
    (room_short s c.loop.at _ c.array_room.result c.array_room.ensures c.in_err-more.was) in
    rw c.from_residual.ensures (
      sym (ap (room_taken arrays_in_list s c.loop.room) (times_refused k array_in_list arrays_in_list arrays_none arrays_more s (c.args.count - c.loop.counter)
          c.loop.at (c.args.count - (c.loop.counter + 1)) (omega arith) 1 e)) ∙ c.loop.invariant.2,
      tt,
    )

pub loop-preserved : goal.loop-preserved
loop-preserved c =
    let found : let a = c.args in let p = c.loop.at in
    RoomAt a.«record».now p (room_taken array_in_list a.«record».now 0 (record_array a.codec a.«record».now p))
    c.in_ok-more.more c.in_ok-more.ends =
    room_at _ _ _ c.array_room.result c.array_room.ensures _ _ c.in_ok-more.was in
    let t = found in
    let a = c.args in
    let m = room_found array_in_list a.«record».now (record_array a.codec a.«record».now c.loop.at) _ _ t.read in (
      t.inside,
      omega arith,
      room_next (record_array _) array_in_list arrays_in_list arrays_none arrays_more _ (c.args.count - c.loop.counter) c.loop.at
          (c.args.count - (c.loop.counter + 1)) (omega arith) m.what _ m.read c.loop.room _ (omega arith) ∙ c.loop.invariant.2,
    )

pub returns : goal.returns
returns c = (
  sym (room_done (record_array _) array_in_list arrays_in_list arrays_none arrays_more _ c.loop.room (c.args.count - c.loop.counter) c.loop.at (omega arith)) ∙ c.loop.invariant.2,
  (omega arith, omega arith),
)
