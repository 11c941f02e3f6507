-- `read_values` reads the values one after another: k of them are at the front of the array.
use Rattle.bit_reader.specs.Bits.{u}
use Rattle.ptl_bits.proofs.SubProfileValues.{Going}
use Rattle.ptl_bits.proofs.sub_profiles.read_values.Given as goal

abbrev pub invariant-loop-k : goal.invariant-loop-k
invariant-loop-k l = Going (u 32) l.initial.br l.n l.values l.br l.k
