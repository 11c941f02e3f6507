-- `read_sizes` reads three numbers of two bytes after the PTL, or returns 1.
use Prim.Native.Nat.{◌+◌, ◌≤◌, ◌<◌}
use mathlib.Core.Path.{sym}
use native.Mathlib.Omega.{arith}
use lib.ListN.{length}
use Rattle.boxes.specs.Bytes.{be}
use Rattle.full_read.proofs.Heads.{reads_sizes}
use Rattle.full_read.proofs.head.read_sizes.Goals as goal

pub returns-then-s-at : goal.returns-then-s-at
returns-then-s-at c =
    let a = c.args in
    let h : length a.s.now < a.at + 6 = grind arith in
    sym ((reads_sizes a.s.now a.size _ _ a.ptl a.at).short h)

pub returns : goal.returns
returns c =
    let a = c.args in
    let h : a.at + 6 ≤ length a.s.now = grind arith in
    rw ((reads_sizes a.s.now a.size (be a.s.now 1 2) (be a.s.now 3 1) a.ptl a.at).there h, c.head_fields-head.ensures)
