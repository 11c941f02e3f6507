-- Laws of storing what is found, one thing after the other: what is stored and what is left make the whole.
use Prim.Native.Nat.{ℕ, ◌+◌, ◌≤◌}
use mathlib.Core.Path.{◌≡◌, refl, sym, ap, ◌∙◌}
use mathlib.Core.List.{List, [], ◌∷◌, ◌++◌}
use native.Mathlib.Omega.{arith}
use lib.ListN.{length, length-append}
use lib.Seq.{sets, length-sets}
use Rattle.parse.specs.Outcome.{Outcome, accept, refuse}
use Rattle.parse.specs.inner.Walk.{more}
use Rattle.parse.specs.inner.Stores.{bytes_of, Puts}
use Rattle.parse.proofs.General.{sets_append}

-- what is to be put, once it is known what was found
pub put_room : {A : Type 0} (f : A → List ℕ) (o : Outcome A) (out : List ℕ) (to : ℕ) → Puts f o out to → to + length (bytes_of f o) ≤ length out
put_room f o out to h = rw h.found h.room

pub puts_found : {A : Type 0} (f : A → List ℕ) (o : Outcome A) (out : List ℕ) (to : ℕ) (a : A) → o ≡ accept a
    → to + length (f a) ≤ length out → Puts f o out to
puts_found f o out to a e h = record { it = a; found = e; room = h }

module _ {A : Type 0} (f : List A → List ℕ) (out₀ : List ℕ) (to₀ : ℕ) (o₀ : Outcome (List A)) where
  -- the walk has come to where o is left, to be stored from place `to` of the output on
  pub record Putting (o : Outcome (List A)) (out : List ℕ) (to : ℕ) : Type 0 where
    pub puts : Puts f o out to
    pub same : length out ≡ length out₀
    pub place : to + length (bytes_of f o) ≡ to₀ + length (bytes_of f o₀)
    pub whole : sets out to (bytes_of f o) ≡ sets out₀ to₀ (bytes_of f o₀)

  module _ (o : Outcome (List A)) (out : List ℕ) (to : ℕ) (i : Putting o out to) where
    pub putting_never : (n : ℕ) → o ≡ refuse n → ⊥
    putting_never n e = let f = i.puts.found in let z : ◌≡◌ {A = ℕ} 0 1 = cc in omega arith

    pub putting_end : f [] ≡ [] → o ≡ accept [] → (to ≡ to₀ + length (bytes_of f o₀)) × (out ≡ sets out₀ to₀ (bytes_of f o₀))
    putting_end none e =
        let b : bytes_of f o ≡ [] = rw (e, none) in
        let l : length (bytes_of f o) ≡ 0 = rw b in
        (omega (arith, i.place), ap (λ (x : List ℕ). sets out to x) (sym b) ∙ i.whole)

    -- the first of what is left, and its bytes
    module _ (a : A) (bytes : List ℕ) (step : (xs : List A) → f (a ∷ xs) ≡ bytes ++ f xs) where
      first : (xs : List A) → o ≡ accept (a ∷ xs) → to + (length bytes + length (f xs)) ≤ length out
      first xs e =
          let g = i.puts.found in
          let u : i.puts.it ≡ a ∷ xs = cc in
          let h = i.puts.room in
          let l = ap (λ (x : List A). length (f x)) u ∙ ap length (step xs) ∙ length-append bytes (f xs) in
          omega arith

      pub putting_room : (rest : Outcome (List A)) → o ≡ more a rest → to + length bytes ≤ length out
      putting_room (accept xs) e = let h = first xs e in omega arith
      putting_room (refuse n) e = absurd (putting_never n e)

      pub putting_again : (rest : Outcome (List A)) → o ≡ more a rest → (d : List ℕ) → d ≡ sets out to bytes → (next : ℕ) → next ≡ to + length bytes
          → Putting rest d next
      putting_again (refuse n) e d g next k = absurd (putting_never n e)
      putting_again (accept xs) e d g next k =
          let l : length d ≡ length out = ap length g ∙ length-sets out to bytes in
          let b : bytes_of f o ≡ bytes ++ f xs = ap (bytes_of f) e ∙ step xs in
          let m = ap length b ∙ length-append bytes (f xs) in
          let r = first xs e in
          record {
            puts = record { it = xs; found = refl; room = omega arith };
            same = l ∙ i.same;
            place = omega (arith, i.place);
            whole = rw (g, k) (sets_append out to bytes (f xs)) ∙ ap (λ (x : List ℕ). sets out to x) (sym b) ∙ i.whole;
          }
