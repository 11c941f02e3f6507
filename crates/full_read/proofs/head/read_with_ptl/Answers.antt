-- `read_with_ptl` reads the fields under the PTL flag in byte order and returns the first refusal.
use Prim.Native.Nat.{◌≤◌}
use mathlib.Core.Path.{sym, ◌∙◌}
use native.Mathlib.Omega.{arith}
use lib.ListN.{length}
use Rattle.parse.proofs.PassedOn.{passed_on}
use Rattle.full_read.proofs.Heads.{reads_no_ptl, ptl_read, ptl_refused}
use Rattle.full_read.proofs.head.read_with_ptl.Goals as goal

pub returns-then-s-lt4 : goal.returns-then-s-lt4
returns-then-s-lt4 c =
    sym (reads_no_ptl c.args.size c.args.s.now (omega arith))

pub returns-in_err-ptl : goal.returns-in_err-ptl
returns-in_err-ptl c =
    let a = c.args in
    let h : 4 ≤ length a.s.now = omega arith in
    rw (passed_on c.from_residual.result _ c.from_residual.ensures.1)
    (sym (ptl_refused a.size a.s.now h c.number-w.result c.number-w.ensures.0 c.read_ptl.result c.read_ptl.ensures _ c.in_err-ptl.was))

pub returns : goal.returns
returns c =
    let a = c.args in
    let h : 4 ≤ length a.s.now = omega arith in
    c.read_sizes.ensures
    ∙ sym (ptl_read a.size a.s.now h c.number-w.result c.number-w.ensures.0 c.read_ptl.result c.read_ptl.ensures _ _ c.in_ok-ptl.was)
