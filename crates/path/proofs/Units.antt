-- What the premises say of the units: they can be grouped and written, and the stream splits into them.
use Prim.Native.Nat.{ℕ, zero, suc, ◌+◌, ◌-◌, ◌≤◌, ◌<◌}
use native.Mathlib.Omega.{arith}
use mathlib.Core.Path.{◌≡◌, refl, ap, subst}
use mathlib.Core.Bool.{Bool, true, false}
use mathlib.Core.List.{List, [], ◌∷◌, ◌++◌}
use lib.Dec.{eqb}
use lib.ListN.{length, get_or, length-append, get_or-append}
use lib.Seq.{get_or_at}
use native.Mathlib.Decide.{dec_le}
use borrow.Author.Tests.{eqb-true}
use Rattle.std.specs.Prelude.{if◌then◌else◌}
use Rattle.nal.specs.Header.{type_or31}
use Rattle.start_code.specs.Splittable.{Clean, Splittable}
use Rattle.start_code.proofs.StartCodes.{CodeAt}
use Rattle.start_code.proofs.Splittable.{splittable}
use Rattle.annex_b.specs.RoundTrip.{AllSplittable}
use Rattle.grouping.specs.Grouping.{having_type}
use Rattle.grouping.specs.Order.{type_at}
use Rattle.grouping.proofs.GroupedFits.{Every}
use Rattle.expand.proofs.Units.{every_at}
use Rattle.path.specs.Still.{AtMostOne}

-- at most one unit of a type
none_of : (t : ℕ) (us : List (List ℕ)) → ((j : ℕ) → j < length us → type_at us j ≡ t → ⊥) → having_type t us ≡ []
unfolding having_type
none_of t [] f = refl
none_of t (u ∷ us) f = go (eqb (type_or31 u) t) refl (none_of t us (λ j h e. f (suc j) (omega arith) e))
  where
    go : (c : Bool) → eqb (type_or31 u) t ≡ c → having_type t us ≡ [] → (if c then u ∷ having_type t us else having_type t us) ≡ []
    go true e r = absurd (f 0 (omega arith) (eqb-true (type_or31 u) t e))
    go false e r = r

pub one_of : (t : ℕ) (us : List (List ℕ)) → AtMostOne t us → length (having_type t us) ≤ 1
unfolding having_type
one_of t [] f = omega arith
one_of t (u ∷ us) f = go (eqb (type_or31 u) t) refl (one_of t us (λ i j h k. f (suc i) (suc j) (omega arith) (omega arith)))
  where
    go : (c : Bool) → eqb (type_or31 u) t ≡ c → length (having_type t us) ≤ 1 → length (if c then u ∷ having_type t us else having_type t us) ≤ 1
    go true e r = let n = ap length (none_of t us (λ j h x. f 0 (suc j) (omega arith) (omega arith) (eqb-true (type_or31 u) t e) x)) in omega arith
    go false e r = r

no_code : (S : List ℕ) → Clean S → (i : ℕ) → CodeAt (0 ∷ 65 ∷ S) i → ⊥
no_code S c zero k = let e = k.second in omega arith
no_code S c (suc zero) k = let e = k.first in omega arith
no_code S c (suc (suc i)) k = c.free i (omega (arith, k.inside)) k.first (subst (λ (n : ℕ). get_or (0 ∷ 65 ∷ S) n 0 ≡ 0) a k.second)
    (subst (λ (n : ℕ). get_or (0 ∷ 65 ∷ S) n 0 ≡ 1) b k.third)
  where
    a : suc (suc i) + 1 ≡ suc (suc (i + 1))
    a = omega arith

    b : suc (suc i) + 2 ≡ suc (suc (i + 2))
    b = omega arith

last_byte : (S : List ℕ) → Clean S → get_or (0 ∷ 65 ∷ S) (length (0 ∷ 65 ∷ S) - 1) 0 ≡ 0 → ⊥
last_byte [] c e = omega arith
last_byte (x ∷ S) c e = c.ends (omega arith) (subst (λ (n : ℕ). get_or (0 ∷ 65 ∷ x ∷ S) n 0 ≡ 0) a e)
  where
    a : length (0 ∷ 65 ∷ x ∷ S) - 1 ≡ suc (suc (length (x ∷ S) - 1))
    a = omega arith

pub still_splits : (S : List ℕ) → Clean S → Splittable (0 ∷ 65 ∷ S)
still_splits S c = splittable (0 ∷ 65 ∷ S) (omega arith) (no_code S c) (last_byte S c)

-- units with one more after them
pub all_split : (gs : List (List ℕ)) (u : List ℕ) → Every Splittable gs → Splittable u → AllSplittable (gs ++ (u ∷ []))
all_split gs u e s k h =
    elim (dec_le (suc k) (length gs)) [
      | yes l ↦ rw (get_or-append gs (u ∷ []) [] k l) (every_at Splittable gs e k l)
      | no l ↦ let m : length gs ≡ k = omega (arith, length-append gs (u ∷ [])) in rw (get_or_at gs u [] [] k m) s
    ]
