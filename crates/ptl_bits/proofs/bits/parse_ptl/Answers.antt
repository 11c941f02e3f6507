-- `parse_ptl` returns profile_tier_level( 1, s ): its sections one after another.
use native.Mathlib.Omega.{arith}
use Rattle.std.proofs.Common.{ap, length}
use Rattle.ptl_bits.proofs.Whole.{general_place}
use Rattle.ptl_bits.proofs.bits.parse_ptl.Goals as goal

pub read_constraints-requires : goal.read_constraints-requires
read_constraints-requires c =
    let h = c.in_ok-general.ensures in
    let e = ap (λ s. length s.now) h.bytes in
    (omega arith, general_place h c.requires.1)
