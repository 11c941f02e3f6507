-- `read_ptl` reads the record: the first byte decides on refusals 1 and 2, and `read_after` does the rest.
use Prim.Native.Nat.{◌%◌}
use mathlib.Core.Path.{◌≡◌, sym}
use native.Mathlib.Omega.{arith}
use lib.ListN.{get_or}
use Rattle.ptl_record.proofs.Reading.{reads_none, reads_zero}
use Rattle.ptl_record_read.proofs.read.read_ptl.Goals as goal

pub returns-then-s-at : goal.returns-then-s-at
returns-then-s-at c =
    sym (reads_none _ _ _ (omega arith))

pub returns-then-n-eq0 : goal.returns-then-n-eq0
returns-then-n-eq0 c =
    let a = c.args in
    let e : get_or a.s.now a.at 0 % 64 ≡ 0 = omega arith in
    sym (reads_zero a.sublayers a.s.now a.at (omega arith) e)
