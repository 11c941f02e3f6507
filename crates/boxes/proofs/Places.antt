-- Laws of the place of unit k: by the count and the unit found, and of the part that is returned for it.
use Prim.Native.Nat.{ℕ, zero, suc, ◌-◌, ◌≤◌, ◌<◌}
use mathlib.Core.Path.{◌≡◌, refl, ap, ◌∙◌}
use mathlib.Core.List.{List, [], ◌∷◌}
use native.Mathlib.Omega.{arith}
use lib.ListN.{length, get_or}
use Rattle.std.specs.Prelude.{Option, None, Some, Result}
use Rattle.error.specs.declared.Refusal.{Refusal}
use Rattle.parse.specs.Answers.{answer_of}
use Rattle.parse.specs.Outcome.{Outcome, accept, refuse}
use Rattle.boxes.specs.Parts.{nowhere}
use Rattle.boxes.specs.Walk.{count_found, found}
use Rattle.boxes.specs.Places.{nth, nth_found}
use Rattle.boxes.specs.inner.Places.{lying}
use Rattle.boxes.specs.declared.Span.{Span}

module _ {A : Type 0} where
  nth_past : (xs : List A) (k : ℕ) → length xs ≤ k → None ≡ nth xs k
  unfolding nth
  nth_past [] k h = refl
  nth_past (x ∷ xs) zero h = absurd (omega arith)
  nth_past (x ∷ xs) (suc k) h = nth_past xs k (omega arith)

  pub nth_there : (d : A) (xs : List A) (k : ℕ) → k < length xs → Some (get_or xs k d) ≡ nth xs k
  unfolding nth
  nth_there d [] k h = absurd (omega arith)
  nth_there d (x ∷ xs) zero h = refl
  nth_there d (x ∷ xs) (suc k) h = nth_there d xs k (omega arith)

  -- with x first
  pub nth_here : (x : A) (xs : List A) (k : ℕ) → k ≡ 0 → Some x ≡ nth (x ∷ xs) k
  unfolding nth
  nth_here x xs zero z = refl
  nth_here x xs (suc k) z = absurd (omega arith)

  pub nth_next : (x : A) (xs : List A) (k : ℕ) → (k ≡ 0 → ⊥) → nth xs (k - 1) ≡ nth (x ∷ xs) k
  unfolding nth
  nth_next x xs zero z = absurd (z refl)
  nth_next x xs (suc k) z = let l : suc k - 1 ≡ k = omega arith in rw l

  pub place_past : (o : Outcome (List A)) (k n : ℕ) → count_found o ≡ accept n → n ≤ k → accept None ≡ nth_found o k
  place_past (accept xs) k n e h = let l : length xs ≡ n = cc in ap accept (nth_past xs k (omega arith))
  place_past (refuse m) k n e h = let z : ◌≡◌ {A = ℕ} 0 1 = cc in absurd (omega arith)

pub place_there : (o : Outcome (List Span)) (k n : ℕ) → count_found o ≡ accept n → k < n → (a : Span) → a ≡ found o k
    → accept (Some a) ≡ nth_found o k
place_there (accept xs) k n e h a f =
    let l : length xs ≡ n = cc in
    ap (λ (b : Span). accept (Some b)) f ∙ ap accept (nth_there nowhere xs k (omega arith))
place_there (refuse m) k n e h a f = let z : ◌≡◌ {A = ℕ} 0 1 = cc in absurd (omega arith)

-- the part that is returned lies where the unit was found
nth_lying : (xs : List Span) (k : ℕ) → lying (accept (nth xs k)) ≡ get_or xs k nowhere
unfolding nth
nth_lying [] k = refl
nth_lying (x ∷ xs) zero = refl
nth_lying (x ∷ xs) (suc k) = nth_lying xs k

found_lies : (o : Outcome (List Span)) (k : ℕ) → lying (nth_found o k) ≡ found o k
found_lies (accept xs) k = nth_lying xs k
found_lies (refuse e) k = refl

pub place_found_lem : (r : Result (Option Span) Refusal) (o : Outcome (List Span)) (k : ℕ) → answer_of r ≡ nth_found o k
    → lying (answer_of r) ≡ found o k
place_found_lem r o k e = ap lying e ∙ found_lies o k
