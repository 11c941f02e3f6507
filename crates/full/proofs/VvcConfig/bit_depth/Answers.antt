-- `bit_depth` adds 8 where the sum fits a byte.
use native.Mathlib.Omega.{arith}
use Rattle.full.specs.Answers.{bit_depth_of}
use Rattle.full.proofs.VvcConfig.bit_depth.Goals as goal

pub returns : goal.returns
unfolding bit_depth_of
returns c =
    grind arith
