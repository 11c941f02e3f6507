-- The arrays of grouped units that are few and short can be written in a full record exactly if types 12 and 13 have at most one unit each.
use Prim.Native.Nat.{ℕ, ◌≤◌}
use native.Mathlib.Omega.{arith}
use mathlib.Core.Path.{◌≡◌, refl, sym, ap, subst, ◌∙◌}
use mathlib.Core.Bool.{Bool, true, false, ◌&&◌, ◌||◌}
use mathlib.Core.List.{List, [], ◌∷◌, ◌++◌, map}
use lib.Dec.{eqb, leb}
use lib.ListN.{length, length-append}
use native.Mathlib.Decide.{dec_le}
use borrow.Author.Tests.{le-leb, lt-leb, eq-eqb, ne_eqb, eqb-true, eqb-false}
use Rattle.std.specs.Prelude.{if◌then◌else◌}
use Rattle.nal.specs.Header.{largest_unit_type, type_or31}
use Rattle.grouping.specs.Grouping.{having_type, without, firsts, group, grouped}
use Rattle.grouping.proofs.GroupedFits.{Every, EachOf, without_of, every_having, having_le, Has-units, types_have}
use Rattle.unit_list.specs.UnitList.{units_of_type, units_fit}
use Rattle.record_arrays.specs.Read.{holds_one}
use Rattle.record_arrays.specs.Write.{array_fits, arrays_fit}
use Rattle.record_arrays.specs.declared.Codec.TheVariants.{Vvc}

-- few and short units, with at most one unit of each type without a count: their arrays can be written
pub record Groupable (us : List (List ℕ)) : Type 0 where
  pub count : length us ≤ 255
  pub short : Every (λ u. length u ≤ 255) us
  pub types : Every (λ u. type_or31 u ≤ largest_unit_type) us
  pub single : (t : ℕ) → holds_one Vvc t ≡ true → length (having_type t us) ≤ 1

units_fit_lem : (us : List (List ℕ)) → Every (λ u. length u ≤ 255) us → units_fit us ≡ true
unfolding units_fit
units_fit_lem [] e = refl
units_fit_lem (u ∷ us) e = let h = e.0 in rw (le-leb (length u) 65535 (omega arith), units_fit_lem us e.1)

module _ (us : List (List ℕ)) (g : Groupable us) where
  one_fits : (t : ℕ) → 1 ≤ length (having_type t us) → (if holds_one Vvc t then eqb (length (having_type t us)) 1 else true) ≡ true
  one_fits t h = go (holds_one Vvc t) refl
    where
      go : (b : Bool) → holds_one Vvc t ≡ b → (if b then eqb (length (having_type t us)) 1 else true) ≡ true
      go true e = eq-eqb (length (having_type t us)) 1 (omega (arith, g.single t e))
      go false e = refl

  groups_fit : (ts : List ℕ) → EachOf (Has-units us) ts → arrays_fit Vvc (map (group us) ts) ≡ true
  unfolding arrays_fit array_fits
  groups_fit [] e = refl
  groups_fit (t ∷ ts) e =
      let k = having_le t us in
      let n = g.count in
      rw (
        le-leb (length (having_type t us)) 65535 (omega arith),
        units_fit_lem (having_type t us) (every_having t _ us g.short),
        one_fits t e.0.0,
        le-leb t 31 e.0.1,
        groups_fit ts e.1,
      )

  pub grouped_fit : arrays_fit Vvc (grouped us) ≡ true
  unfolding grouped
  grouped_fit = groups_fit (firsts (map type_or31 us)) (types_have us g.types)

-- each number once
abbrev Once : List ℕ → Type 0
Once [] = Unit {0}
Once (t ∷ ts) = EachOf (λ x. x ≡ t → ⊥) ts × Once ts

without_other : (t : ℕ) (xs : List ℕ) → EachOf (λ x. x ≡ t → ⊥) (without t xs)
unfolding without
without_other t [] = tt
without_other t (x ∷ xs) = go (eqb x t) refl (without_other t xs)
  where
    go : (c : Bool) → eqb x t ≡ c → EachOf (λ y. y ≡ t → ⊥) (without t xs)
        → EachOf (λ y. y ≡ t → ⊥) (if c then without t xs else x ∷ without t xs)
    go true e f = f
    go false e f = (eqb-false x t e, f)

without_once : (t : ℕ) (xs : List ℕ) → Once xs → Once (without t xs)
unfolding without
without_once t [] o = tt
without_once t (x ∷ xs) o = go (eqb x t) (without_once t xs o.1)
  where
    go : (c : Bool) → Once (without t xs) → Once (if c then without t xs else x ∷ without t xs)
    go true f = f
    go false f = (without_of (λ y. y ≡ x → ⊥) t xs o.0, f)

firsts_once : (ts : List ℕ) → Once (firsts ts)
unfolding firsts
firsts_once [] = tt
firsts_once (t ∷ ts) = (without_other t (firsts ts), without_once t (firsts ts) (firsts_once ts))

-- counts and tests of one array before those of the others
one_at_most : (n : ℕ) → 1 ≤ n → eqb n 1 ≡ leb n 1
one_at_most n h = elim (dec_le n 1) [
  | yes k ↦ eq-eqb n 1 (omega arith) ∙ sym (le-leb n 1 k)
  | no k ↦ ne_eqb n 1 (λ e. absurd (omega arith)) ∙ sym (lt-leb n 1 (omega arith))
]

and_true : (x : Bool) → (x && true) ≡ x
and_true true = refl
and_true false = refl

and_swap : (x y : Bool) → (x && (y && true)) ≡ (y && x)
and_swap true true = refl
and_swap true false = refl
and_swap false true = refl
and_swap false false = refl

first_of_two : (m k a b : ℕ) → 1 ≤ m → k ≡ m → a ≡ 0 → (eqb m 1 && (leb a 1 && leb b 1)) ≡ (leb k 1 && leb b 1)
first_of_two m k a b h e z = rw (e, z, one_at_most m h)

last_of_two : (m k a b : ℕ) → 1 ≤ m → k ≡ m → b ≡ 0 → (eqb m 1 && (leb a 1 && leb b 1)) ≡ (leb a 1 && leb k 1)
last_of_two m k a b h e z = rw (e, z, one_at_most m h) (and_swap (leb m 1) (leb a 1))

module _ (us : List (List ℕ)) (few : length us ≤ 255) (short : Every (λ u. length u ≤ 255) us) where
  abbrev count : ℕ → List ℕ → ℕ
  count t ts = length (units_of_type t (map (group us) ts))

  absent : (t : ℕ) (ts : List ℕ) → EachOf (λ x. x ≡ t → ⊥) ts → count t ts ≡ 0
  unfolding units_of_type
  absent t [] e = refl
  absent t (x ∷ ts) e = rw (ne_eqb x t e.0) (absent t ts e.1)

  group_fits : (t : ℕ) → t ≤ largest_unit_type
      → array_fits Vvc (group us t) ≡ (if holds_one Vvc t then eqb (length (having_type t us)) 1 else true)
  unfolding array_fits
  group_fits t h =
      let k = having_le t us in
      rw (
        le-leb (length (having_type t us)) 65535 (omega arith),
        units_fit_lem (having_type t us) (every_having t _ us short),
        le-leb t 31 h,
      )
      (and_true (if holds_one Vvc t then eqb (length (having_type t us)) 1 else true))

  groups_single : (ts : List ℕ) → EachOf (Has-units us) ts → Once ts
      → arrays_fit Vvc (map (group us) ts) ≡ (leb (count 12 ts) 1 && leb (count 13 ts) 1)
  unfolding arrays_fit units_of_type
  groups_single [] e o = refl
  groups_single (t ∷ ts) e o =
      ap (λ (x : Bool). x && arrays_fit Vvc (map (group us) ts)) (group_fits t e.0.1)
      ∙ ap (λ (x : Bool). (if holds_one Vvc t then eqb m 1 else true) && x) (groups_single ts e.1 o.1)
      ∙ go (eqb t 12) refl (eqb t 13) refl
    where
      m : ℕ
      m = length (having_type t us)

      none : (k : ℕ) → t ≡ k → count k ts ≡ 0
      none k z = subst (λ (n : ℕ). count n ts ≡ 0) z (absent t ts o.0)

      long : (k : ℕ) → t ≡ k → length (having_type t us ++ units_of_type k (map (group us) ts)) ≡ m
      long k z = omega (arith, length-append (having_type t us) (units_of_type k (map (group us) ts)), none k z)

      of : ℕ → Bool → List (List ℕ)
      of k b = if b then having_type t us ++ units_of_type k (map (group us) ts) else units_of_type k (map (group us) ts)

      go : (a : Bool) → eqb t 12 ≡ a → (b : Bool) → eqb t 13 ≡ b
          → ((if a || b then eqb m 1 else true) && (leb (count 12 ts) 1 && leb (count 13 ts) 1)) ≡ (leb (length (of 12 a)) 1 && leb (length (of 13 b)) 1)
      go true f true g = absurd (omega (arith, eqb-true t 12 f, eqb-true t 13 g))
      go true f false g = first_of_two m (length (of 12 true)) (count 12 ts) (count 13 ts) e.0.0 (long 12 (eqb-true t 12 f)) (none 12 (eqb-true t 12 f))
      go false f true g = last_of_two m (length (of 13 true)) (count 12 ts) (count 13 ts) e.0.0 (long 13 (eqb-true t 13 g)) (none 13 (eqb-true t 13 g))
      go false f false g = refl

  pub grouped_single : Every (λ u. type_or31 u ≤ largest_unit_type) us
      → arrays_fit Vvc (grouped us) ≡ (leb (length (units_of_type 12 (grouped us))) 1 && leb (length (units_of_type 13 (grouped us))) 1)
  unfolding grouped
  grouped_single types = groups_single (firsts (map type_or31 us)) (types_have us types) (firsts_once (map type_or31 us))
