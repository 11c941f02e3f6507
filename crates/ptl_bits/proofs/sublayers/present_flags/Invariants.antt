-- `present_flags` takes the flags from the top of the byte: those of the sublayers still to come are in what is left of it.
use Rattle.ptl_bits.proofs.SublayerLevels.{Flagged}
use Rattle.ptl_bits.proofs.sublayers.present_flags.Given as goal

abbrev pub invariant-loop-i : goal.invariant-loop-i
invariant-loop-i l = Flagged l.flags l.m l.present l.byte l.i
