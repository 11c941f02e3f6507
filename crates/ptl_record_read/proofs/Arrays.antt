-- Laws of arrays with counts, besides those of crate ptl: an empty array, and a run stored from the front on.
use Prim.Native.Nat.{ℕ, ◌%◌, ◌≤◌}
use mathlib.Core.Path.{◌≡◌, refl, ap, ◌∙◌}
use mathlib.Core.List.{List, [], ◌∷◌, ◌++◌}
use native.Mathlib.Nat.{sub-zero}
use native.Mathlib.Omega.{arith}
use lib.ListN.{length, get_or, set, replicate, length-replicate}
use lib.Seq.{sets}
use Rattle.parse.proofs.General.{sets_front}
use Rattle.ptl.specs.Ptl.{padded, without_flags}
use Rattle.std.proofs.lemmas.List.{drop-replicate}

module _ {A : Type 0} where
  pub padded_none : (N : ℕ) (z : A) → replicate N z ≡ padded N z []
  padded_none N z = rw (sub-zero N)

  -- a run stored from the front on
  pub padded_sets : (N : ℕ) (z : A) (xs : List A) → length xs ≤ N → sets (replicate N z) 0 xs ≡ padded N z xs
  padded_sets N z xs h =
      sets_front (replicate N z) xs (let l = length-replicate N z in omega arith) ∙ ap (λ (l : List A). xs ++ l) (drop-replicate (length xs) N z)

-- the two flags of the first constraint byte set to 0 in the array
pub without_flags_lem : (xs : List ℕ) → set (padded 63 0 xs) 0 (get_or (padded 63 0 xs) 0 0 % 64) ≡ padded 63 0 (without_flags xs)
unfolding without_flags
without_flags_lem [] = refl
without_flags_lem (x ∷ xs) = refl
