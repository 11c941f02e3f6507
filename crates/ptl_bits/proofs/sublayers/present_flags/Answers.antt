-- `present_flags` takes the flags from the top of the byte: those of the sublayers still to come are in what is left of it.
use native.Mathlib.Omega.{arith}
use Rattle.ptl_bits.proofs.SublayerLevels.{flags_start, flags_on, flags_end}
use Rattle.ptl_bits.proofs.sublayers.present_flags.Goals as goal

pub loop-i-init : goal.loop-i-init
loop-i-init c = flags_start _ _ (omega arith)

pub loop-i-preserved : goal.loop-i-preserved
loop-i-preserved c = flags_on _ _ _ _ _ c.loop-i.invariant _ (omega arith) (omega arith)

pub returns : goal.returns
returns c = flags_end _ _ _ _ _ c.loop-i.invariant (omega arith)
