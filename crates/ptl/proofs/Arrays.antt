-- Laws of arrays with zeros past the values: filled from the front on, and from the end down.
use mathlib.Core.Path.{◌≡◌, refl, sym, ◌∙◌}
use mathlib.Core.List.{List, [], ◌∷◌, ◌++◌, append_assoc}
use Prim.Native.Nat.{ℕ, zero, suc, ◌+◌, ◌-◌, ◌≤◌, ◌<◌}
use native.Mathlib.Nat.{sub-zero, zero-sub, suc-sub-suc, not-suc-le-zero, le_of_suc-le-suc}
use native.Mathlib.Omega.{arith}
use lib.ListN.{length, get_or, drop, set, replicate, length-append, length-replicate}
use lib.Seq.{set_at, get_or-append-add}
use Rattle.ptl.specs.Ptl.{padded}

module _ {A : Type 0} where
  pub length_padded : (N : ℕ) (z : A) (xs : List A) → length xs ≤ N → length (padded N z xs) ≡ N
  length_padded N z xs h = rw (length-append, length-replicate) (omega arith)

  -- one more value, after those stored
  pub padded_more : (N : ℕ) (z : A) (xs : List A) (v : A) (k : ℕ) → length xs ≡ k → k < N → set (padded N z xs) k v ≡ padded N z (xs ++ (v ∷ []))
  padded_more N z xs v k e h =
      let m : N - length xs ≡ suc (N - length (xs ++ (v ∷ []))) = omega (arith, length-append xs (v ∷ [])) in
      rw m
      (set_at xs z (replicate (N - length (xs ++ (v ∷ []))) z) v k e ∙ sym (append_assoc xs (v ∷ []) (replicate (N - length (xs ++ (v ∷ []))) z)))

  -- a store at j, in what follows from j on
  drop_set_at : (j : ℕ) (l : List A) (v : A) → j < length l → drop j (set l j v) ≡ v ∷ drop (suc j) l
  drop_set_at j [] v h = absurd (not-suc-le-zero h)
  drop_set_at zero (x ∷ l) v h = refl
  drop_set_at (suc j) (x ∷ l) v h = drop_set_at j l v (le_of_suc-le-suc h)

  -- one more value, before those stored
  pub snoc_store : (xs : List A) (j : ℕ) (l : List A) (v : A) → j < length l → (xs ++ (v ∷ [])) ++ drop (suc j) l ≡ xs ++ drop j (set l j v)
  snoc_store xs j l v h = rw (drop_set_at j l v h) (append_assoc xs (v ∷ []) (drop (suc j) l))

  -- an element past the values is what the array is filled with
  pub padded_past : (N : ℕ) (z : A) (xs : List A) (i : ℕ) → length xs ≤ i → get_or (padded N z xs) i z ≡ z
  padded_past N z xs i h =
      let e : i ≡ length xs + (i - length xs) = omega arith in
      rw (e, get_or-append-add xs (replicate (N - length xs) z) (i - length xs) z) (all (N - length xs) (i - length xs))
    where
      all : (n j : ℕ) → get_or (replicate n z) j z ≡ z
      all zero j = refl
      all (suc n) zero = refl
      all (suc n) (suc j) = all n j
