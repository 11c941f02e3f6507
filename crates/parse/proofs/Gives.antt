-- What holds of a value that is read, and of the place after it.
use Prim.Native.Nat.{ℕ}
use mathlib.Core.Path.{◌≡◌, refl, subst}
use native.Mathlib.Omega.{arith}
use Rattle.parse.specs.Parse.{Parsed, value, refused, bind}

pub record Gives {A : Type 0} (x : Parsed A) (P : A → ℕ → Type 0) : Type 0 where
  pub at : (a : A) (q : ℕ) → x ≡ value a q → P a q

pub gives_value : {A : Type 0} {P : A → ℕ → Type 0} (a : A) (q : ℕ) → P a q → Gives (value a q) P
gives_value {A} {P} a q h = record { at = λ b r e. let f : a ≡ b = cc in let g : q ≡ r = cc in subst (λ (c : A). P c r) f (subst (P a) g h) }

pub gives_refused : {A : Type 0} {P : A → ℕ → Type 0} (e : ℕ) → Gives {A = A} (refused e) P
gives_refused e = record { at = λ b r w. let z : ◌≡◌ {A = ℕ} 0 1 = cc in absurd (omega arith) }

pub gives_any : {A : Type 0} (x : Parsed A) → Gives x (λ a q. Unit {0})
gives_any x = record { at = λ a q e. tt }

pub gives_bind : {A B : Type 0} {P : A → ℕ → Type 0} {Q : B → ℕ → Type 0} (x : Parsed A) (f : A → ℕ → Parsed B) → Gives x P
    → ((a : A) (q : ℕ) → P a q → Gives (f a q) Q) → Gives (bind x f) Q
gives_bind (value a q) f h k = k a q (h.at a q refl)
gives_bind (refused e) f h k = gives_refused e

-- what holds of a value that was read, with the equation that says that it was read
pub with_read : {A : Type 0} {P : A → ℕ → Type 0} (x : Parsed A) → Gives x P → Gives x (λ a q. (x ≡ value a q) × P a q)
with_read x g = record { at = λ a q e. (e, g.at a q e) }
