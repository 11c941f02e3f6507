-- Units that pass the unit check can be split off a stream: the check is a test of it that computes.
use Prim.Native.Nat.{ℕ, zero, suc}
use mathlib.Core.Path.{◌≡◌}
use mathlib.Core.Bool.{Bool, true, ◌&&◌}
use mathlib.Core.List.{List, [], ◌∷◌}
use native.Mathlib.Omega.{arith}
use Rattle.parse.proofs.General.{both_true}
use Rattle.unit_check.specs.UnitCheck.{unit_checked}
use Rattle.unit_check.proofs.Checks.{checked_splittable}
use Rattle.annex_b.specs.RoundTrip.{AllSplittable}

-- all units pass the unit check
unfoldable pub all_checked : List (List ℕ) → Bool
all_checked [] = true
all_checked (v ∷ us) = unit_checked v && all_checked us

pub all_splittable : (us : List (List ℕ)) → all_checked us ≡ true → AllSplittable us
unfolding all_checked
all_splittable [] e k h = absurd (omega arith)
all_splittable (v ∷ us) e zero h = checked_splittable v (both_true (unit_checked v) (all_checked us) e).0
all_splittable (v ∷ us) e (suc k) h = all_splittable us (both_true (unit_checked v) (all_checked us) e).1 k (omega arith)
