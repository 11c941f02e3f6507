-- `read_bits` returns u(n): after k turns the loop has the number of the first k bits.
use Rattle.bit_reader.specs.Bits.{bits_at, u}
use Rattle.std.proofs.Common.{arith}
use Rattle.std.proofs.lemmas.Grind.{common_steps}
use Rattle.bit_reader.proofs.Numbers.{bits_lt, bits_fit}
use Rattle.bit_reader.proofs.bits.read_bits.Goals as goal

pub returns-then-not-has_bits-clause-read : goal.returns-then-not-has_bits-clause-read
unfolding u
returns-then-not-has_bits-clause-read c = grind (arith, common_steps)

pub loop-k-init : goal.loop-k-init
unfolding bits_at
loop-k-init c = grind (arith, common_steps)

pub overflow_mul-v : goal.overflow_mul-v
overflow_mul-v c = let a = c.args in omega (arith, bits_fit a.s.now a.at.0 c.loop-k.k (omega arith))

pub overflow_add-v : goal.overflow_add-v
overflow_add-v c = let a = c.args in omega (arith, bits_fit a.s.now a.at.0 c.loop-k.k (omega arith))

pub loop-k-preserved : goal.loop-k-preserved
unfolding bits_at
loop-k-preserved c = grind (arith, common_steps)

pub returns-clause-read : goal.returns-clause-read
unfolding u
returns-clause-read c = grind (arith, common_steps)

pub returns-clause-low : goal.returns-clause-low
returns-clause-low c = grind (arith, bits_lt)
