-- `read_list` returns 1 if the arrays run past the end, 20 if their list is longer than the output, else it writes the list.
use Prim.Native.Nat.{ℕ, ◌+◌, ◌≤◌, ◌<◌}
use mathlib.Core.Path.{◌≡◌, ap, ◌∙◌}
use native.Mathlib.Omega.{arith}
use lib.ListN.{length, get_or}
use Rattle.std.specs.Prelude.{Option}
use Rattle.std.specs.Option.{ok_or}
use Rattle.error.specs.declared.Refusal.TheVariants.{Truncated}
use Rattle.parse.specs.Parse.{times}
use Rattle.parse.proofs.Output.{output_refused}
use Rattle.parse.proofs.PassedOn.{passed_on}
use Rattle.record_arrays.specs.Read.{record_array}
use Rattle.counted_units.specs.inner.Counted.{room_taken}
use Rattle.counted_units.proofs.Repeated.{RoomAt, room_short, room_at}
use Rattle.record_arrays_read.specs.inner.Arrays.{arrays_in_list}
use Rattle.record_arrays_read.proofs.Lists.{arrays_absent, arrays_refused, list_too_long, list_given_lem}
use Rattle.record_arrays_read.proofs.arrays.read_list.Goals as goal

pub returns-in_err-ok_or : goal.returns-in_err-ok_or
returns-in_err-ok_or c =
    let a = c.args in
    let absent : length a.«record».now ≤ a.at = rw c.in_err-ok_or.ensures.ok_part at c.get.ensures.lookup.3 in
    let said = rw c.in_err-ok_or.ensures.ok_part at c.in_err-ok_or.ensures.value in
    let e : c.in_err-ok_or.field-0.0 ≡ Truncated = cc in
    rw (passed_on c.from_residual.result _ c.from_residual.ensures.1, e)
    (output_refused _ _ 1 (arrays_absent a.codec a.«record».now a.at absent))

pub returns-in_err-room : goal.returns-in_err-room
returns-in_err-room c =
    let a = c.args in
    let first : (a.at < length a.«record».now) × ((d : ℕ) → c.in_ok-ok_or.field-0.now ≡ get_or a.«record».now a.at d) =
    rw c.in_ok-ok_or.ensures.ok_part at c.get.ensures.lookup.3 in
    rw (passed_on c.from_residual-in_err-room.result _ c.from_residual-in_err-room.ensures.1 ∙ c.in_err-room.ensures.value
    ∙ ap (λ (o : Option (ℕ × ℕ)). ok_or o Truncated) c.in_err-room.ensures.ok_part)
    (output_refused _ _ 1
    (arrays_refused a.codec a.«record».now a.at first.0 c.from-count.result (c.from-count.ensures ∙ first.1 0) 1
    (room_short _ _ _ c.arrays_room.result c.arrays_room.ensures c.in_err-room.ensures.ok_part)))

pub returns-then-out-len : goal.returns-then-out-len
returns-then-out-len c =
    let a = c.args in
    let first : (a.at < length a.«record».now) × ((d : ℕ) → c.in_ok-ok_or.field-0.now ≡ get_or a.«record».now a.at d) =
    rw c.in_ok-ok_or.ensures.ok_part at c.get.ensures.lookup.3 in
    let found : RoomAt a.«record».now (a.at + 1)
    (room_taken arrays_in_list a.«record».now 0 (times c.from-count.result (record_array a.codec) a.«record».now (a.at + 1)))
    c.in_ok-room.room c.in_ok-room.consumed =
    room_at _ _ _ c.arrays_room.result c.arrays_room.ensures _ _ c.in_ok-room.ensures.ok_part in
    list_too_long a.codec a.«record».now a.at first.0 c.from-count.result (c.from-count.ensures ∙ first.1 0) c.in_ok-room.room
    c.in_ok-room.consumed found.read a.out.now (omega (arith, c.if-out-len.true))

pub returns : goal.returns
returns c =
    let a = c.args in
    let first : (a.at < length a.«record».now) × ((d : ℕ) → c.in_ok-ok_or.field-0.now ≡ get_or a.«record».now a.at d) =
    rw c.in_ok-ok_or.ensures.ok_part at c.get.ensures.lookup.3 in
    let found : RoomAt a.«record».now (a.at + 1)
    (room_taken arrays_in_list a.«record».now 0 (times c.from-count.result (record_array a.codec) a.«record».now (a.at + 1)))
    c.in_ok-room.room c.in_ok-room.consumed =
    room_at _ _ _ c.arrays_room.result c.arrays_room.ensures _ _ c.in_ok-room.ensures.ok_part in
    list_given_lem a.codec a.«record».now a.at first.0 c.from-count.result (c.from-count.ensures ∙ first.1 0) c.in_ok-room.room
    c.in_ok-room.consumed found.read a.out.now (omega (arith, c.if-out-len.false)) _ _ c.put.ensures c.put_arrays.ensures
