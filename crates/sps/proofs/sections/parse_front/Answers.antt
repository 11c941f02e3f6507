-- `parse_front` reads the five sections one after another, and they make up the head.
use native.Mathlib.Omega.{arith}
use Rattle.std.proofs.Common.{ap, length, refl}
use Rattle.bit_reader.proofs.Chain.{read_value}
use Rattle.sps.proofs.Bounds.{ids_bounds}
use Rattle.sps.proofs.sections.parse_front.Goals as goal

pub read_ptl-requires : goal.read_ptl-requires
read_ptl-requires c =
    let h = c.in_ok-ids.ensures in
    let e = ap (λ s. length s.now) h.bytes in
    let f = ap (λ s. length s.now) c.new-br.ensures.0 in
    let i = ids_bounds _ _ _ _ (read_value refl h) in
    (omega arith, omega arith, omega arith)
