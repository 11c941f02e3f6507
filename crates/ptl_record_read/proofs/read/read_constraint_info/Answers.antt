-- `read_constraint_info` returns the constraint bytes, the flags of the first set to 0.
use lib.ListN.{length-take, length, drop}
use Prim.Native.Nat.{◌≤◌}
use mathlib.Core.Path.{ap, ◌∙◌}
use native.Mathlib.Omega.{arith}
use Rattle.ptl.specs.Ptl.{padded}
use Rattle.ptl_record_read.proofs.Arrays.{padded_sets, without_flags_lem}
use Rattle.ptl_record_read.proofs.read.read_constraint_info.Goals as goal

pub returns : goal.returns
returns c =
    let short : length c.part-bytes.result.now ≤ 63 =
    let a = c.args in
    let e = ap length c.part-bytes.ensures.holds ∙ length-take a.n (drop a.at a.s.now) in
    omega arith in
    let e = c.copy.ensures ∙ padded_sets 63 0 c.part-bytes.result.now (short) ∙ ap (padded 63 0) c.part-bytes.ensures.holds in
    rw e (without_flags_lem _)
