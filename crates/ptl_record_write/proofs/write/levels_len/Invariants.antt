-- `levels_len` counts the levels that are written.
use Prim.Native.Nat.{◌≤◌}
use mathlib.Core.Path.{◌≡◌}
use lib.ListN.{length}
use Rattle.ptl_record.specs.Write.{level_bytes}
use Rattle.ptl_record_write.proofs.write.levels_len.Given as goal

abbrev pub invariant-loop-i : goal.invariant-loop-i
invariant-loop-i l = (l.i ≤ l.m) × (l.n ≤ l.i) × (l.n ≡ length (level_bytes l.p l.i))
