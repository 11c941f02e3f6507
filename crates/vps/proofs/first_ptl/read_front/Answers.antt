-- `read_front` aligns within the bytes.
use native.Mathlib.Omega.{arith}
use Rattle.std.proofs.Common.{refl}
use Rattle.std.proofs.lemmas.Grind.{common_steps}
use Rattle.bit_reader.proofs.Chain.{read_value}
use Rattle.bit_reader.proofs.Numbers.{u_read}
use Rattle.vps.proofs.first_ptl.read_front.Goals as goal

pub align-requires : goal.align-requires
align-requires c =
    let layer = u_read _ _ _ _ _ (read_value refl c.in_ok-_layer_id.ensures.read.reads) in
    grind (arith, common_steps)
