-- `put_sub_profiles` stores one sub-profile in each turn.
use lib.Seq.{sets}
use Prim.Native.Nat.{◌≤◌}
use mathlib.Core.Path.{◌≡◌}
use lib.ListN.{take}
use Rattle.ptl_record.specs.Write.{sub_profile_bytes}
use Rattle.ptl_record_write.proofs.write.put_sub_profiles.Given as goal

abbrev pub invariant-loop-k : goal.invariant-loop-k
invariant-loop-k l = (l.k ≤ l.n) × (l.out ≡ sets l.initial.out l.at (sub_profile_bytes (take l.k l.a)))
