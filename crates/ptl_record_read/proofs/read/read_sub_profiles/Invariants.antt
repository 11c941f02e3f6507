-- `read_sub_profiles` returns the sub-profiles: the loop stores one number in each turn.
use Prim.Native.Nat.{◌≤◌}
use mathlib.Core.Path.{◌≡◌}
use Rattle.ptl.specs.Ptl.{padded}
use Rattle.ptl_record.specs.inner.Places.{words}
use Rattle.ptl_record_read.proofs.read.read_sub_profiles.Given as goal

abbrev pub invariant-loop-k : goal.invariant-loop-k
invariant-loop-k l = (l.k ≤ l.n) × (l.a ≡ padded 255 0 (words l.k l.s l.at))
