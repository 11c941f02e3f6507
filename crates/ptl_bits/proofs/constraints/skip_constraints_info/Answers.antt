-- `skip_constraints_info` ends where the definition does: at a whole byte.
use native.Mathlib.Omega.{arith}
use Rattle.std.proofs.Common.{refl}
use Rattle.bit_reader.proofs.Chain.{read_value}
use Rattle.bit_reader.proofs.Numbers.{u_read}
use Rattle.ptl_bits.proofs.ConstraintInfo.{bits_span}
use Rattle.ptl_bits.proofs.constraints.skip_constraints_info.Goals.{then-branch-eq1+in_ok-skip_constraint_bits, else-branch-eq1}
use Rattle.ptl_bits.proofs.constraints.skip_constraints_info.Goals as goal

pub align-requires : goal.align-requires
align-requires c =
    let flag = u_read _ _ _ _ _ (read_value refl c.in_ok-u.ensures.read.reads) in
    elim c.if-branch-eq1.branch [
      | then-branch-eq1+in_ok-skip_constraint_bits w ↦
          let info = bits_span _ _ _ (read_value c.in_ok-u.ensures.read.reads.bytes w.in_ok-skip_constraint_bits.ensures) in
          rw w.br-is (omega arith)
      | else-branch-eq1 w ↦ rw w.br-is (omega arith)
    ]
