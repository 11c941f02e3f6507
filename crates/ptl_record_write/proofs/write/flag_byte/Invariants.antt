-- `flag_byte` returns the byte of flags: the loop shifts them in from the top.
use Prim.Native.Nat.{◌≤◌, ◌<◌}
use mathlib.Core.Path.{◌≡◌}
use Rattle.ptl_record.specs.Write.{flag_byte}
use Rattle.ptl_record_write.proofs.write.flag_byte.Given as goal

abbrev pub invariant-loop-i : goal.invariant-loop-i
invariant-loop-i l = (l.i ≤ l.m) × (l.f < 256) × (l.f ≡ flag_byte l.p l.i)
