-- `walk::array_step` reads the head of the array after a cursor's end: the arrays from there on are its units and the arrays after it.
use Prim.Native.Nat.{◌+◌, ◌≤◌, ◌<◌}
use mathlib.Core.Path.{◌≡◌, sym}
use native.Mathlib.Omega.{arith}
use lib.ListN.{length, take}
use Rattle.parse.specs.Parse.{value}
use Rattle.boxes.specs.Bytes.{chunk}
use Rattle.boxes.proofs.ChunkBytes.{chunk_cut, chunk_whole}
use Rattle.unit_list.proofs.Arrays.{two_to_four}
use Rattle.unit_list.proofs.Steps.{arrays_end, arrays_unread, arrays_headless}
use Rattle.unit_list.proofs.Steps.{arrays_short, arrays_complete, arrays_type, arrays_entered}
use Rattle.unit_list.proofs.walk.array_step.Goals as goal

pub returns-then-c-list : goal.returns-then-c-list
returns-then-c-list c =
    let a = c.args in (arrays_end a.list.now a.c c.if-c-list.true, c.if-c-list.true)

pub returns-then-list-from : goal.returns-then-list-from
returns-then-list-from c =
    let a = c.args in
    (arrays_headless a.list.now a.c (omega (arith, c.if-c-list.false, c.requires.within)) c.if-list-from.true, tt)

pub returns-then-end-from : goal.returns-then-end-from
returns-then-end-from c =
    let left_at : let a = c.args in a.c.end < length a.list.now =
    omega (arith, c.if-list-from.false) in
    let read_at : let a = c.args in let n = c.of_array.result in a.c.end + a.c.width + n ≤ length a.list.now
    → chunk a.c.width (take (length a.list.now) a.list.now) a.c.end
    ≡ value (record { start = a.c.end + a.c.width; len = n }) (a.c.end + a.c.width + n) =
    λ h. let a = c.args in
    sym (chunk_whole a.c.width a.list.now a.c.end (length a.list.now) (omega arith) (omega (arith, c.if-list-from.false))
    c.of_array.result c.of_array.ensures.0 h) in
    let a = c.args in
    let h : a.c.end + a.c.width + c.of_array.result ≤ length a.list.now = omega (arith, c.if-end-from.true, c.if-list-from.false) in
    (arrays_short a.list.now a.c (left_at) _ (read_at h) (omega (arith, c.if-end-from.true)), tt)

pub returns-then-list-end : goal.returns-then-list-end
returns-then-list-end c =
    let left_at : let a = c.args in a.c.end < length a.list.now =
    omega (arith, c.if-list-from.false) in
    let a = c.args in (
      arrays_unread a.list.now a.c (left_at)
          (sym (chunk_cut a.c.width a.list.now a.c.end (length a.list.now) (omega arith) (omega (arith, c.if-list-from.false))
          (omega (arith, c.of_array.ensures.0, c.if-list-end.true)))),
      tt,
    )

pub returns-then-complete-gt3 : goal.returns-then-complete-gt3
returns-then-complete-gt3 c =
    let left_at : let a = c.args in a.c.end < length a.list.now =
    omega (arith, c.if-list-from.false) in
    let read_at : let a = c.args in let n = c.of_array.result in a.c.end + a.c.width + n ≤ length a.list.now
    → chunk a.c.width (take (length a.list.now) a.list.now) a.c.end
    ≡ value (record { start = a.c.end + a.c.width; len = n }) (a.c.end + a.c.width + n) =
    λ h. let a = c.args in
    sym (chunk_whole a.c.width a.list.now a.c.end (length a.list.now) (omega arith) (omega (arith, c.if-list-from.false))
    c.of_array.result c.of_array.ensures.0 h) in
    let a = c.args in
    (arrays_complete a.list.now a.c (left_at) _ (read_at c.if-list-end.false) (omega arith), tt)

pub returns-then-unit_type-gt-LARGEST_TYPE : goal.returns-then-unit_type-gt-LARGEST_TYPE
returns-then-unit_type-gt-LARGEST_TYPE c =
    let left_at : let a = c.args in a.c.end < length a.list.now =
    omega (arith, c.if-list-from.false) in
    let read_at : let a = c.args in let n = c.of_array.result in a.c.end + a.c.width + n ≤ length a.list.now
    → chunk a.c.width (take (length a.list.now) a.list.now) a.c.end
    ≡ value (record { start = a.c.end + a.c.width; len = n }) (a.c.end + a.c.width + n) =
    λ h. let a = c.args in
    sym (chunk_whole a.c.width a.list.now a.c.end (length a.list.now) (omega arith) (omega (arith, c.if-list-from.false))
    c.of_array.result c.of_array.ensures.0 h) in
    let a = c.args in (
      arrays_type a.list.now a.c (left_at) _ (read_at c.if-list-end.false)
          (omega (arith, c.if-end-from.false)) (omega arith) (omega arith),
      tt,
    )

pub returns : goal.returns
returns c =
    let left_at : let a = c.args in a.c.end < length a.list.now =
    omega (arith, c.if-list-from.false) in
    let read_at : let a = c.args in let n = c.of_array.result in a.c.end + a.c.width + n ≤ length a.list.now
    → chunk a.c.width (take (length a.list.now) a.list.now) a.c.end
    ≡ value (record { start = a.c.end + a.c.width; len = n }) (a.c.end + a.c.width + n) =
    λ h. let a = c.args in
    sym (chunk_whole a.c.width a.list.now a.c.end (length a.list.now) (omega arith) (omega (arith, c.if-list-from.false))
    c.of_array.result c.of_array.ensures.0 h) in
    let a = c.args in
    arrays_entered a.list.now a.c (left_at) _ (read_at c.if-list-end.false)
    (omega (arith, c.if-end-from.false)) (omega arith) c.requires
    (omega (arith, (two_to_four a.c.width c.requires.width).0)) (omega arith)
