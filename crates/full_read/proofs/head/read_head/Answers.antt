-- `read_head` tests the first byte: 1 if there is none, 3 for prefix size 3; then it reads the fields under the PTL flag if it is set.
use Prim.Native.Nat.{◌<◌}
use mathlib.Core.Path.{◌≡◌, sym, ◌∙◌}
use native.Mathlib.Omega.{arith}
use lib.ListN.{length}
use Rattle.full_read.proofs.Heads.{head_none, head_three, head_with_ptl_lem, head_plain}
use Rattle.full_read.proofs.head.read_head.Goals as goal

pub returns-then-is_empty : goal.returns-then-is_empty
returns-then-is_empty c =
    let h : length c.args.s.now ≡ 0 = grind arith in
    sym (head_none _ h)

pub returns-then-minus_one-eq2 : goal.returns-then-minus_one-eq2
returns-then-minus_one-eq2 c =
    let h : 0 < length c.args.s.now = grind arith in
    sym (head_three c.args.s.now h (omega arith))

pub returns-then-first-eq1 : goal.returns-then-first-eq1
returns-then-first-eq1 c =
    let h : 0 < length c.args.s.now = grind arith in
    c.read_with_ptl.ensures ∙ sym (head_with_ptl_lem c.args.s.now h (λ e. omega arith) (omega arith))

pub returns : goal.returns
returns c =
    let h : 0 < length c.args.s.now = grind arith in
    rw (head_plain c.args.s.now h (λ e. omega arith) (λ e. omega arith), c.plain_head-head.ensures)
