-- `zeros_before_one` counts the zeros before the next 1: the count from where the loop is makes up the whole count.
use Prim.Native.Nat.{◌-◌}
use mathlib.Core.Path.{◌≡◌}
use Rattle.bit_reader.specs.Bits.{zeros_before_one}
use Rattle.bit_reader.proofs.bits.zeros_before_one.Given as goal

abbrev pub invariant-loop-z : goal.invariant-loop-z
invariant-loop-z l = zeros_before_one 0 32 l.s l.initial.here.0 ≡ zeros_before_one l.z (32 - l.z) l.s l.here.0
