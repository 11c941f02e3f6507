-- `array_rules` tests the bytes that arrays begin with. Invariant: the tests so far joined with those left are the whole.
use Prim.Native.Nat.{◌+◌, ◌-◌}
use mathlib.Core.Path.{sym, ◌∙◌}
use native.Mathlib.Omega.{arith}
use Rattle.record_arrays.specs.Read.{record_array}
use Rattle.record_arrays.specs.declared.Codec.TheVariants.{Vvc}
use Rattle.record_arrays_read.specs.inner.Arrays.{array_in_list}
use Rattle.counted_units.proofs.Repeated.{room_found, room_refused, room_short, room_at}
use Rattle.record_rules.proofs.Tested.{tested_all, tested_short, tested_next}
use Rattle.record_rules.proofs.arrays.array_rules.Goals as goal

pub returns-in_err-ends : goal.returns-in_err-ends
returns-in_err-ends c =
    let s = c.args.«record».now in
    let l = c.loop in
    let e = room_refused array_in_list s (record_array Vvc s l.at) 1
    (room_short s l.at _ c.array_room.result c.array_room.ensures c.in_err-ends.was) in
    let k =
    sym (tested_short s l.reserved l.typed (c.args.count - l.counter) l.at (c.args.count - (l.counter + 1)) (omega arith) 1 e)
    ∙ l.invariant.1 in
    rw c.from_residual.ensures k

pub loop-preserved : goal.loop-preserved
loop-preserved c =
    let s = c.args.«record».now in
    let l = c.loop in
    let t = room_at s l.at _ c.array_room.result c.array_room.ensures _ _ c.in_ok-ends.was in
    let m = room_found array_in_list s (record_array Vvc s l.at) _ _ t.read in (
      t.inside,
      rw (c.array_reserved-reserved.ensures, c.array_typed-typed.ensures, c.byte-first.ensures)
          (tested_next s l.reserved l.typed (c.args.count - l.counter) l.at (c.args.count - (l.counter + 1)) (omega arith) m.what _ m.read
          ∙ l.invariant.1),
    )

pub returns : goal.returns
returns c =
    let l = c.loop in
    sym (tested_all c.args.«record».now l.reserved l.typed (c.args.count - l.counter) l.at (omega arith)) ∙ l.invariant.1
