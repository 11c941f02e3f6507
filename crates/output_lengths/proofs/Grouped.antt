-- Grouping keeps the sum of the lengths of units: each is in one group.
use Prim.Native.Nat.{ℕ, ◌+◌, ◌≤◌}
use mathlib.Core.Path.{◌≡◌, refl, sym}
use mathlib.Core.Bool.{Bool, true, false}
use mathlib.Core.List.{List, [], ◌∷◌, map}
use native.Mathlib.Omega.{arith}
use lib.Dec.{eqb}
use lib.ListN.{length}
use borrow.Author.Tests.{eqb-true, eqb-false, ne_eqb}
use Rattle.std.specs.Prelude.{if◌then◌else◌}
use Rattle.nal.specs.Header.{type_or31}
use Rattle.unit_list.specs.UnitList.{units_of}
use Rattle.grouping.specs.Grouping.{having_type, without, firsts, group, grouped}
use Rattle.access_unit.specs.inner.Gathered.{lengths}
use Rattle.access_unit.proofs.Streams.{lengths_append}

-- n for each occurrence of t in a list
unfoldable weigh : ℕ → ℕ → List ℕ → ℕ
weigh t n [] = 0
weigh t n (x ∷ xs) = (if eqb t x then n else 0) + weigh t n xs

module _ (t n : ℕ) where
  without_less : (y : ℕ) (xs : List ℕ) → weigh t n (without y xs) ≤ weigh t n xs
  unfolding weigh without
  without_less y [] = omega arith
  without_less y (x ∷ xs) = go (eqb x y) (without_less y xs)
    where
      go : (c : Bool) → weigh t n (without y xs) ≤ weigh t n xs
          → weigh t n (if c then without y xs else x ∷ without y xs) ≤ (if eqb t x then n else 0) + weigh t n xs
      go true h = omega arith
      go false h = omega arith

  without_none : (xs : List ℕ) → weigh t n (without t xs) ≡ 0
  unfolding weigh without
  without_none [] = refl
  without_none (x ∷ xs) = go (eqb x t) refl (without_none xs)
    where
      go : (c : Bool) → eqb x t ≡ c → weigh t n (without t xs) ≡ 0 → weigh t n (if c then without t xs else x ∷ without t xs) ≡ 0
      go true e h = h
      go false e h = let d = ne_eqb t x (λ f. eqb-false x t e (sym f)) in rw d (omega (arith, h))

  -- in a list of first occurrences t occurs at most once
  firsts_once : (ts : List ℕ) → weigh t n (firsts ts) ≤ n
  unfolding weigh firsts
  firsts_once [] = omega arith
  firsts_once (y ∷ ts) = go (eqb t y) refl (firsts_once ts)
    where
      go : (c : Bool) → eqb t y ≡ c → weigh t n (firsts ts) ≤ n → (if c then n else 0) + weigh t n (without y (firsts ts)) ≤ n
      go true e h = let f = eqb-true t y e in rw (← f) (omega (arith, without_none (firsts ts)))
      go false e h = omega (arith, without_less y (firsts ts))

-- one unit more: its length for each occurrence of its type among the groups
having_more : (t : ℕ) (u : List ℕ) (us : List (List ℕ))
    → lengths (having_type t (u ∷ us)) ≡ (if eqb (type_or31 u) t then length u else 0) + lengths (having_type t us)
unfolding having_type lengths
having_more t u us = go (eqb (type_or31 u) t)
  where
    go : (c : Bool) → lengths (if c then u ∷ having_type t us else having_type t us) ≡ (if c then length u else 0) + lengths (having_type t us)
    go true = refl
    go false = omega arith

groups_more : (u : List ℕ) (us : List (List ℕ)) (ts : List ℕ)
    → lengths (units_of (map (group (u ∷ us)) ts)) ≡ weigh (type_or31 u) (length u) ts + lengths (units_of (map (group us) ts))
unfolding weigh units_of lengths
groups_more u us [] = refl
groups_more u us (t ∷ ts) =
    omega (
      arith,
      lengths_append (having_type t (u ∷ us)) (units_of (map (group (u ∷ us)) ts)),
      lengths_append (having_type t us) (units_of (map (group us) ts)),
      having_more t u us,
      groups_more u us ts,
    )

groups_none : (ts : List ℕ) → lengths (units_of (map (group []) ts)) ≡ 0
unfolding units_of having_type lengths
groups_none [] = refl
groups_none (t ∷ ts) = groups_none ts

groups_less : (us : List (List ℕ)) (ts : List ℕ) → ((t n : ℕ) → weigh t n ts ≤ n) → lengths (units_of (map (group us) ts)) ≤ lengths us
unfolding lengths
groups_less [] ts h = omega (arith, groups_none ts)
groups_less (u ∷ us) ts h = omega (arith, groups_more u us ts, h (type_or31 u) (length u), groups_less us ts h)

pub grouped_less : (us : List (List ℕ)) → lengths (units_of (grouped us)) ≤ lengths us
unfolding grouped
grouped_less us = groups_less us (firsts (map type_or31 us)) (λ t n. firsts_once t n (map type_or31 us))
