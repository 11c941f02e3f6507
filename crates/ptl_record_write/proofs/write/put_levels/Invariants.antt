-- `put_levels` stores the levels from the highest sublayer down.
use lib.Seq.{sets}
use Prim.Native.Nat.{◌+◌, ◌≤◌}
use mathlib.Core.Path.{◌≡◌}
use lib.ListN.{length}
use Rattle.ptl_record.specs.Write.{level_bytes}
use Rattle.ptl_record_write.proofs.write.put_levels.Given as goal

abbrev pub invariant-loop-i : goal.invariant-loop-i
invariant-loop-i l = (l.i ≤ l.m) × (l.w + length (level_bytes l.p l.i) ≡ l.at + length (level_bytes l.p l.m)) × (sets l.out l.w (level_bytes l.p l.i) ≡ sets l.initial.out l.at (level_bytes l.p l.m))
