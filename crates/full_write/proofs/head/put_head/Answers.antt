-- `put_head` stores the first byte, and with the PTL flag the fields under it.
use Prim.Native.Nat.{◌≤◌}
use mathlib.Core.Path.{◌≡◌, ap, ◌∙◌}
use native.Mathlib.Omega.{arith}
use lib.ListN.{length, length-set}
use Rattle.parse.specs.Logic.{bit}
use Rattle.full_write.proofs.Heads.{first, head_fits_lem, head_part, head_plain}
use Rattle.full_write.proofs.head.put_head.Goals as goal

pub overflow_sub-h : goal.overflow_sub-h
overflow_sub-h c =
    let f = head_fits_lem _ c.requires.0 in omega (arith, f.one)

pub overflow_mul-h : goal.overflow_mul-h
overflow_mul-h c =
    let f = head_fits_lem _ c.requires.0 in omega (arith, f.one, f.four)

pub overflow_add-h : goal.overflow_add-h
overflow_add-h c =
    let f = head_fits_lem _ c.requires.0 in omega (arith, f.one, f.four)

pub overflow_add-h-2 : goal.overflow_add-h-2
overflow_add-h-2 c =
    let f = head_fits_lem _ c.requires.0 in
    let flag : c.from-flag.result ≤ 1 = grind arith in
    omega (arith, f.one, f.four)

pub put_ptl_part-requires : goal.put_ptl_part-requires
put_ptl_part-requires c =
    let h = head_part c.args.h c.if-h.true in (
      (head_fits_lem _ c.requires.0).part c.if-h.true,
      omega (arith, ap length h, c.requires.1, ap length c.put.ensures, length-set c.args.out.now 0 (first c.args.h)),
    )

pub returns-then-h : goal.returns-then-h
returns-then-h c =
    let h = head_part c.args.h c.if-h.true in
    let flag : c.from-flag.result ≡ bit c.args.h.ptl_present_flag = grind arith in
    c.put_ptl_part.ensures ∙ rw (c.put.ensures, flag, h)

pub returns-else-h : goal.returns-else-h
returns-else-h c =
    let h = head_plain c.args.h c.if-h.false in
    let flag : c.from-flag.result ≡ bit c.args.h.ptl_present_flag = grind arith in
    c.put.ensures ∙ rw (flag, h)
