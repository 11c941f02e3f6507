-- Laws of the parsers that repeat another, `many` and `times`: their steps, and induction by steps.
use Prim.Native.Nat.{ℕ, zero, suc, ◌+◌, ◌≤◌, ◌<◌}
use mathlib.Core.Path.{◌≡◌, refl, sym, ap, ◌∙◌}
use mathlib.Core.List.{List, [], ◌∷◌}
use native.Mathlib.Omega.{arith}
use native.Mathlib.Decide.{dec_le}
use lib.Dec.{leb}
use lib.ListN.{length}
use borrow.Author.Tests.{le-leb, lt-leb}
use Rattle.std.specs.Prelude.{if◌then◌else◌}
use Rattle.parse.specs.Parse.{Parsed, value, refused, bind, Parser, many, many_up_to, times}

-- whatever P reads in s takes at least one place
abbrev pub Advances : {A : Type 0} → Parser A → List ℕ → Type 0
Advances {A} P s = (p : ℕ) (a : A) (q : ℕ) → P s p ≡ value a q → p < q

module _ {A : Type 0} (P : Parser A) (s : List ℕ) (advances : Advances P s) where
  -- the bound does not matter once it covers what is left
  turn : (p : ℕ) (M N : ℕ → Parsed (List A)) → ((q : ℕ) → p < q → M q ≡ N q) → (x : Parsed A) → P s p ≡ x
      → bind x (λ a q. bind (M q) (λ rest r. value (a ∷ rest) r)) ≡ bind x (λ a q. bind (N q) (λ rest r. value (a ∷ rest) r))
  turn p M N h (refused e) w = refl
  turn p M N h (value a q) w = ap (λ (o : Parsed (List A)). bind o (λ rest r. value (a ∷ rest) r)) (h q (advances p a q w))

  same_fuel : (f g p : ℕ) → length s ≤ p + f → length s ≤ p + g → many_up_to f P s p ≡ many_up_to g P s p
  unfolding many_up_to
  same_fuel zero zero p h k = refl
  same_fuel zero (suc g) p h k = rw (le-leb (length s) p (omega arith))
  same_fuel (suc f) zero p h k = rw (le-leb (length s) p (omega arith))
  same_fuel (suc f) (suc g) p h k =
      ap (λ (o : Parsed (List A)). if leb (length s) p then value [] p else o)
      (turn p (many_up_to f P s) (many_up_to g P s) (λ q l. same_fuel f g q (omega arith) (omega arith)) (P s p) refl)

  pub many_fuel : (f p : ℕ) → length s ≤ p + f → many_up_to f P s p ≡ many P s p
  unfolding many
  many_fuel f p h = same_fuel f (length s) p h (omega arith)

  pub many_step : (p : ℕ) (a : A) (q : ℕ) → p < length s → P s p ≡ value a q → many P s p ≡ bind (many P s q) (λ rest r. value (a ∷ rest) r)
  unfolding many_up_to
  many_step p a q h e =
      let l = advances p a q e in
      sym (many_fuel (suc (length s)) p (omega arith))
      ∙ (rw (lt-leb (length s) p h, e) (ap (λ (o : Parsed (List A)). bind o (λ rest r. value (a ∷ rest) r)) (many_fuel (length s) q (omega arith))))

  -- what holds at the end, and where P refuses, and before a step where it holds after it, holds everywhere
  module _ (M : ℕ → Type 0) (nil : (p : ℕ) → length s ≤ p → M p) (bad : (p e : ℕ) → p < length s → P s p ≡ refused e → M p)
      (step : (p : ℕ) (a : A) (q : ℕ) → p < length s → P s p ≡ value a q → M q → M p) where
    at : (p : ℕ) → ((q : ℕ) → p < q → M q) → p < length s → (x : Parsed A) → P s p ≡ x → M p
    at p rest h (refused e) w = bad p e h w
    at p rest h (value a q) w = step p a q h w (rest q (advances p a q w))

    within : (f p : ℕ) → length s ≤ p + f → M p
    within zero p h = nil p (omega arith)
    within (suc f) p h =
        elim (dec_le (length s) p) [
          | yes k ↦ nil p k
          | no k ↦ at p (λ q l. within f q (omega arith)) (omega arith) (P s p) refl
        ]

    pub many_induction : (p : ℕ) → M p
    many_induction p = within (length s) p (omega arith)

module _ {A : Type 0} (P : Parser A) (s : List ℕ) where
  pub many_nil : (p : ℕ) → length s ≤ p → many P s p ≡ value [] p
  unfolding many many_up_to
  many_nil p h = go (length s) refl
    where
      go : (f : ℕ) → length s ≡ f → many_up_to f P s p ≡ value [] p
      go zero e = refl
      go (suc f) e = rw (le-leb (length s) p h)

  pub many_bad : (p e : ℕ) → p < length s → P s p ≡ refused e → many P s p ≡ refused e
  unfolding many many_up_to
  many_bad p e h w = go (length s) refl
    where
      go : (f : ℕ) → length s ≡ f → many_up_to f P s p ≡ refused e
      go zero l = absurd (omega arith)
      go (suc f) l = rw (lt-leb (length s) p h, w)

  pub times_nil : (p : ℕ) → times 0 P s p ≡ value [] p
  unfolding times
  times_nil p = refl

  pub times_step : (n p : ℕ) (a : A) (q : ℕ) → P s p ≡ value a q → times (suc n) P s p ≡ bind (times n P s q) (λ rest r. value (a ∷ rest) r)
  unfolding times
  times_step n p a q w = rw w

  pub times_bad : (n p e : ℕ) → P s p ≡ refused e → times (suc n) P s p ≡ refused e
  unfolding times
  times_bad n p e w = rw w
