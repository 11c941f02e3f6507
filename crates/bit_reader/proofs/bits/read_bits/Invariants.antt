-- `read_bits` returns u(n): after k turns the loop has the number of the first k bits.
use mathlib.Core.Path.{◌≡◌}
use Rattle.bit_reader.specs.Bits.{bits_at}
use Rattle.bit_reader.proofs.bits.read_bits.Given as goal

abbrev pub invariant-loop-k : goal.invariant-loop-k
invariant-loop-k l = l.v ≡ bits_at l.s l.at.0 l.k
