-- `put_ptl_part` stores the fields under the PTL flag, one after the other.
use native.Mathlib.Omega.{arith}
use borrow.Author.Rules.{rules}
use Rattle.full.proofs.HeadRoundTrip.{small, length_part}
use Rattle.full_write.proofs.Heads.{part_stored}
use Rattle.full_write.proofs.head.put_ptl_part.Goals as goal

pub put_number-requires : goal.put_number-requires
put_number-requires c =
    (omega arith, omega (arith, length_part c.args.h, c.requires.1))

pub overflow_mul-h : goal.overflow_mul-h
overflow_mul-h c =
    let f = small _ c.requires.0 in omega (arith, f.depth)

pub overflow_add-h : goal.overflow_add-h
overflow_add-h c =
    let f = small _ c.requires.0 in omega (arith, f.depth)

pub put_ptl-after-requires : goal.put_ptl-after-requires
put_ptl-after-requires c =
    let f = small _ c.requires.0 in
    let l = length_part c.args.h in
    (f.ptl, f.sublayers, search rules)

pub put_picture-requires : goal.put_picture-requires
put_picture-requires c =
    let l = length_part c.args.h in
    search rules

pub returns : goal.returns
returns c =
    let a = c.args in
    let p = c.put_ptl-after.ensures in
    rw (c.put_picture.ensures, p.1, c.put.ensures, c.put_number.ensures, c.word_of-word.ensures)
    (part_stored a.h a.out.now a.at c.put_ptl-after.result p.0)
