-- `walk::unit_step` passes the unit at the cursor: the units up to the array's end are this one and those after it.
use Prim.Native.Nat.{◌+◌}
use mathlib.Core.Path.{◌≡◌, refl, sym}
use native.Mathlib.Omega.{arith}
use lib.ListN.{take}
use Rattle.parse.specs.Parse.{value}
use Rattle.boxes.specs.Bytes.{chunk}
use Rattle.boxes.proofs.ChunkBytes.{chunk_no_length, chunk_cut, chunk_whole}
use Rattle.unit_list.proofs.Arrays.{two_to_four}
use Rattle.unit_list.proofs.Steps.{units_end, units_unread, units_next, unit_passed}
use Rattle.unit_list.proofs.walk.unit_step.Goals as goal

pub returns-then-c : goal.returns-then-c
returns-then-c c =
    (units_end c.args.list.now c.args.c c.requires c.if-c.true, c.if-c.true)

pub returns-then-c-from : goal.returns-then-c-from
returns-then-c-from c =
    let s = c.args.list.now in
    let k = c.args.c in (
      units_unread s k c.requires c.if-c.false
          (sym (chunk_no_length k.width s k.at k.end c.requires.within c.if-c-from.true)),
      tt,
    )

pub returns-then-c-end : goal.returns-then-c-end
returns-then-c-end c =
    let s = c.args.list.now in
    let k = c.args.c in (
      units_unread s k c.requires c.if-c.false
          (sym (chunk_cut k.width s k.at k.end c.requires.within c.if-c-from.false
          (omega (arith, c.of_unit-len.ensures.0, c.if-c-end.true)))),
      tt,
    )

pub returns : goal.returns
returns c =
    let read_at : let k = c.args.c in let n = c.of_unit-len.result in
    chunk k.width (take k.end c.args.list.now) k.at ≡ value (record { start = k.at + k.width; len = n }) (k.at + k.width + n) =
    let k = c.args.c in
    sym (chunk_whole k.width c.args.list.now k.at k.end c.requires.within c.if-c-from.false c.of_unit-len.result
    c.of_unit-len.ensures.0 c.if-c-end.false) in
    let s = c.args.list.now in
    let k = c.args.c in
    let left = c.if-c.false in (
      units_next s k c.requires left _ (read_at) (omega (arith, (two_to_four k.width c.requires.width).0)),
      (unit_passed s k c.requires left _ (read_at), refl, refl),
    )
