-- `read_levels` reads the levels from the highest down: those still to be read come before those stored.
use Rattle.bit_reader.specs.Bits.{u}
use Rattle.ptl_bits.proofs.SublayerLevels.{Levelled}
use Rattle.ptl_bits.proofs.sublayers.read_levels.Given as goal

abbrev pub invariant-loop-sublayer : goal.invariant-loop-sublayer
invariant-loop-sublayer l = Levelled (u 8) l.initial.br l.flags l.m l.levels l.br l.byte l.sublayer
