-- Chains of reads, as the definitions are written: what follows from the first read.
use mathlib.Core.Path.{◌≡◌, refl}
use Prim.Native.Nat.{ℕ}
use native.Mathlib.Omega.{arith}
use mathlib.Core.List.{List, ◌∷◌}
use Rattle.parse.specs.Parse.{Parsed, value, refused, bind, outcome}
use Rattle.parse.specs.inner.Walk.{more}

pub bind_bind : {A B C : Type 0} (x : Parsed A) (f : A → ℕ → Parsed B) (g : B → ℕ → Parsed C) → bind (bind x f) g ≡ bind x (λ a q. bind (f a q) g)
bind_bind (value a q) f g = refl
bind_bind (refused e) f g = refl

-- a chain that returned a value: its first read did, and the rest returned the value of the whole
pub first_read : {A B C : Type 0} {b : B} {t : ℕ} (x : Parsed A) (f : A → ℕ → Parsed B) → bind x f ≡ value b t
    → ((a : A) (q : ℕ) → x ≡ value a q → f a q ≡ value b t → C) → C
first_read (value a q) f e k = k a q refl e
first_read (refused n) f e k = let z : ◌≡◌ {A = ℕ} 0 1 = cc in absurd (omega arith)

-- a read that both chains begin with
pub same_first : {A B : Type 0} (x : Parsed A) (f g : A → ℕ → Parsed B) → ((a : A) (q : ℕ) → f a q ≡ g a q) → bind x f ≡ bind x g
same_first (value a q) f g h = h a q
same_first (refused e) f g h = refl

-- a read that is the first of a section
pub into_section : {A B C : Type 0} (x : Parsed A) (h : A → ℕ → Parsed C) (f : A → ℕ → Parsed B) (g : B → ℕ → Parsed C)
    → ((a : A) (q : ℕ) → h a q ≡ bind (f a q) g) → bind x h ≡ bind (bind x f) g
into_section (value a q) h f g e = e a q
into_section (refused r) h f g e = refl

-- one value read before a list of others: what the outcome is
pub outcome_more : {A : Type 0} (a : A) (x : Parsed (List A)) → outcome (bind x (λ rest r. value (a ∷ rest) r)) ≡ more a (outcome x)
outcome_more a (value xs q) = refl
outcome_more a (refused e) = refl
