-- `constraint_bytes` copies the bytes, then sets the top two bits of the first to 0.
use native.Mathlib.Omega.{arith}
use Rattle.std.proofs.Common.{◌≡◌, take, drop, ◌-◌, length, length-drop}
use lib.Seq.{length-take-le}
use Rattle.ptl_bits.proofs.ConstraintInfo.{copied}
use Rattle.ptl_bits.proofs.constraints.constraint_bytes.Goals as goal

pub returns : goal.returns
returns c =
    let a = c.args in
    let n = a.to.0 - a.from.0 in
    let e : length (take n (drop a.from.0 a.rbsp.now)) ≡ n =
    length-take-le n (drop a.from.0 a.rbsp.now) (omega (arith, length-drop a.from.0 a.rbsp.now)) in
    rw c.copy_from_slice.ensures.after (copied _ _ e)
