-- `head_len` returns 1, or with the PTL flag 10 plus the length of the PTL.
use mathlib.Core.Path.{ap}
use native.Mathlib.Omega.{arith}
use lib.ListN.{length}
use Rattle.full.proofs.HeadRoundTrip.{small, length_part}
use Rattle.full_write.proofs.Heads.{head_fits_lem, head_part, head_plain}
use Rattle.full_write.proofs.head.head_len.Goals as goal

pub ptl_len-requires : goal.ptl_len-requires
ptl_len-requires c =
    let f = small _ ((head_fits_lem _ c.requires).part c.if-h.true) in (f.ptl, f.sublayers)

pub returns-then-h : goal.returns-then-h
returns-then-h c =
    let h = c.args.h in
    let l = c.ptl_len.ensures in
    (omega (arith, l.0, ap length (head_part h c.if-h.true), length_part h), omega (arith, l.1))

pub returns : goal.returns
returns c =
    (omega (arith, ap length (head_plain c.args.h c.if-h.false)), omega arith)
