-- `read_head` tests for an empty record, for the version and for the length; then it reads the fields.
use Prim.Native.Nat.{◌<◌}
use mathlib.Core.Path.{◌≡◌, sym}
use native.Mathlib.Omega.{arith}
use lib.ListN.{length, get_or}
use Rattle.hvcc.proofs.HeadRead.{head_none, head_other, head_short, head_there}
use Rattle.hvcc_read.proofs.head.read_head.Goals as goal

pub returns-then-is_empty : goal.returns-then-is_empty
returns-then-is_empty c =
    let h : length c.args.s.now ≡ 0 = grind arith in
    sym (head_none _ h)

pub returns-then-s-ne1 : goal.returns-then-s-ne1
returns-then-s-ne1 c =
    let h : 0 < length c.args.s.now = grind arith in
    sym (head_other c.args.s.now h (λ e. omega arith))

pub returns-then-s-lt-HEAD_LEN : goal.returns-then-s-lt-HEAD_LEN
returns-then-s-lt-HEAD_LEN c =
    let h : 0 < length c.args.s.now = grind arith in
    let version : get_or c.args.s.now 0 0 ≡ 1 = omega arith in
    sym (head_short c.args.s.now version h (omega arith))

pub returns : goal.returns
returns c =
    let version : get_or c.args.s.now 0 0 ≡ 1 = omega arith in
    rw (head_there c.args.s.now version (omega arith), c.head_fields-head.ensures)
