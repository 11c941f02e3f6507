-- Laws of a search among the entries in use.
use Prim.Native.Nat.{ℕ, zero, suc, ◌+◌, ◌≤◌, ◌<◌}
use mathlib.Core.Path.{◌≡◌, refl, sym, ap, ◌∙◌}
use mathlib.Core.List.{List, [], ◌∷◌}
use native.Mathlib.Omega.{arith}
use native.Mathlib.Numerals.{add-one}
use lib.Dec.{ltb}
use lib.ListN.{length, get_or, drop, drop_of_length-le}
use lib.Seq.{drop-cons}
use borrow.Author.Tests.{eq-eqb, ne_eqb, ltb-true, ltb-false}
use Rattle.std.specs.Prelude.{Option, None, Some}
use Rattle.std.specs.Option.{is_some, IfSome, option_map}
use Rattle.boxes.specs.Places.{nth}
use Rattle.boxes.proofs.Places.{nth_there}
use Rattle.directory.specs.Directory.{entries_of_type}
use Rattle.directory.specs.declared.Entry.{Entry}

nth_past : {A : Type 0} (xs : List A) (k : ℕ) → length xs ≤ k → nth xs k ≡ None
unfolding nth
nth_past [] k h = refl
nth_past (x ∷ xs) zero h = absurd (omega arith)
nth_past (x ∷ xs) (suc k) h = nth_past xs k (omega arith)

-- element k, as a slice gives it
pub nth_got : {X A : Type 0} (v : X → A) (o : Option X) (xs : List A) (k : ℕ) → is_some o ≡ ltb k (length xs)
    → IfSome o (λ x. v x ≡ get_or xs k (v x)) → option_map v o ≡ nth xs k
nth_got v None xs k h i = sym (nth_past xs k (ltb-false k (length xs) (sym h)))
nth_got v (Some x) xs k h i = ap Some i ∙ nth_there (v x) xs k (ltb-true k (length xs) (sym h))

-- the first entry of a type
abbrev pub first_of : ℕ → List Entry → Option Entry
first_of t es = nth (entries_of_type t es) 0

-- among those from place i on: entry i, or the first after it
module _ (t : ℕ) (d : List Entry) (z : Entry) (i : ℕ) (here : i < length d) where
  pub first_here : (get_or d i z).unit_type ≡ t → Some (get_or d i z) ≡ first_of t (drop i d)
  unfolding entries_of_type nth
  first_here h = rw (drop-cons d i z here, eq-eqb (get_or d i z).unit_type t h)

  pub first_after : ((get_or d i z).unit_type ≡ t → ⊥) → first_of t (drop i d) ≡ first_of t (drop (i + 1) d)
  unfolding entries_of_type nth
  first_after h = rw (drop-cons d i z here, ne_eqb (get_or d i z).unit_type t h, add-one i)

pub first_none : (t : ℕ) (d : List Entry) (i : ℕ) → length d ≤ i → None ≡ first_of t (drop i d)
unfolding entries_of_type nth
first_none t d i h = rw (drop_of_length-le d {i = i} h)
