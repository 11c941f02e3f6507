-- `exp_golomb` returns ue(v): the zeros, then as many bits.
use Rattle.std.proofs.Common.{arith, sym}
use Rattle.std.proofs.lemmas.Grind.{common_steps}
use Rattle.bit_reader.specs.Bits.{ue}
use Rattle.bit_reader.proofs.Numbers.{zeros_read, Sized, sized}
use Rattle.bit_reader.proofs.bits.exp_golomb.Goals.{After-next-1}
use Rattle.bit_reader.proofs.bits.exp_golomb.Goals as goal

-- what the arithmetic needs of the zeros and of the low bits
both : (c : After-next-1) → Sized c.in_ok-zeros.zeros c.in_ok-low.low
both c = sized _ _ _ _ _ _ (sym c.in_ok-zeros.ensures) (sym c.in_ok-low.ensures.read)

pub returns-in_err-zeros : goal.returns-in_err-zeros
unfolding ue
returns-in_err-zeros c = grind (arith, common_steps)

pub read_bits-requires : goal.read_bits-requires
read_bits-requires c = omega (arith, zeros_read _ _ _ _ _ _ (sym c.in_ok-zeros.ensures))

pub returns-in_err-low : goal.returns-in_err-low
unfolding ue
returns-in_err-low c = grind (arith, common_steps)

pub overflow_shl-result : goal.overflow_shl-result
overflow_shl-result c = omega (arith, both c)

pub overflow_sub-result : goal.overflow_sub-result
overflow_sub-result c = omega (arith, both c)

pub overflow_add-result : goal.overflow_add-result
overflow_add-result c = omega (arith, both c)

pub returns : goal.returns
unfolding ue
returns c = let b = both c in grind (arith, common_steps)
