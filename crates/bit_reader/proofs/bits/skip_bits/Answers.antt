-- `skip_bits` passes over bits as the definition does.
use Rattle.std.proofs.Common.{arith}
use Rattle.std.proofs.lemmas.Grind.{common_steps}
use Rattle.bit_reader.specs.Bits.{skip}
use Rattle.bit_reader.proofs.bits.skip_bits.Goals as goal

pub returns-then-not-has_bits : goal.returns-then-not-has_bits
unfolding skip
returns-then-not-has_bits c = grind (arith, common_steps)

pub returns : goal.returns
unfolding skip
returns c = grind (arith, common_steps)
