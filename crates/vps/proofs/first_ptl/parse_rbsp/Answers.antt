-- `parse_rbsp` of a VPS reads what comes before the PTL, and the PTL after it.
use native.Mathlib.Omega.{arith}
use Rattle.std.proofs.Common.{ap, length, refl}
use Rattle.bit_reader.proofs.Chain.{read_value}
use Rattle.vps.proofs.FirstPtl.{front_bounds}
use Rattle.vps.proofs.first_ptl.parse_rbsp.Goals as goal

pub parse_ptl-requires : goal.parse_ptl-requires
parse_ptl-requires c =
    let h = c.in_ok-max_sublayers_minus1.ensures in
    let e = ap (λ s. length s.now) h.bytes in
    let f = ap (λ s. length s.now) c.new-br.ensures.0 in
    let b = front_bounds _ _ _ _ (read_value refl h) in
    (omega arith, b.1, b.0)
