-- `align` returns the next whole byte: it computes what the definition says.
use mathlib.Core.Path.{refl}
use Rattle.bit_reader.specs.Bits.{align}
use Rattle.bit_reader.proofs.bits.align.Goals as goal

pub returns : goal.returns
unfolding align
returns c =
    λ s. refl
