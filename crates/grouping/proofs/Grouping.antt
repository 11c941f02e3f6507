-- The order of units after expansion is that of SCOPE 5.2, and each unit has exactly one place in it.
use Prim.Native.Nat.{ℕ, zero, suc, ◌+◌, ◌<◌}
use native.Mathlib.Omega.{arith}
use native.Mathlib.Decide.{dec_le}
use mathlib.Core.Path.{◌≡◌, refl, sym, ap, ◌∙◌, subst}
use mathlib.Core.Bool.{Bool, true, false}
use mathlib.Core.Logic.{inl, inr}
use mathlib.Core.List.{List, [], ◌∷◌, ◌++◌, map}
use lib.Dec.{eqb}
use lib.ListN.{length, get_or, length-append, length-map}
use borrow.Author.Tests.{eq-eqb, ne_eqb, eqb-true, eqb-false}
use Rattle.std.specs.Prelude.{if◌then◌else◌}
use Rattle.nal.specs.Header.{type_or31}
use Rattle.unit_list.specs.UnitList.{units_of}
use Rattle.grouping.specs.Order.{first_place, type_at, Before, GroupedAs}
use Rattle.grouping.specs.Grouping.{having_type, without, firsts, group, grouped}

-- P of every number of a list, and R of every two in their order
abbrev Each : (ℕ → Type 0) → List ℕ → Type 0
Each P [] = Unit {0}
Each P (x ∷ xs) = P x × Each P xs

abbrev Pairwise : (ℕ → ℕ → Type 0) → List ℕ → Type 0
Pairwise R [] = Unit {0}
Pairwise R (x ∷ xs) = Each (R x) xs × Pairwise R xs

-- x is in the list
abbrev Has : ℕ → List ℕ → Type 0
Has x xs = (k : ℕ) × (k < length xs) × (get_or xs k 0 ≡ x)

each_map : {P Q : ℕ → Type 0} → ((x : ℕ) → P x → Q x) → (xs : List ℕ) → Each P xs → Each Q xs
each_map f [] e = tt
each_map f (x ∷ xs) e = (f x e.0, each_map f xs e.1)

each_both : {P Q S : ℕ → Type 0} → ((x : ℕ) → P x → Q x → S x) → (xs : List ℕ) → Each P xs → Each Q xs → Each S xs
each_both f [] e g = tt
each_both f (x ∷ xs) e g = (f x e.0 g.0, each_both f xs e.1 g.1)

each_append : (P : ℕ → Type 0) (xs ys : List ℕ) → Each P xs → Each P ys → Each P (xs ++ ys)
each_append P [] ys e f = f
each_append P (x ∷ xs) ys e f = (e.0, each_append P xs ys e.1 f)

each_suc : (P : ℕ → Type 0) (xs : List ℕ) → Each (λ i. P (suc i)) xs → Each P (map suc xs)
each_suc P [] e = tt
each_suc P (x ∷ xs) e = (e.0, each_suc P xs e.1)

each_at : (P : ℕ → Type 0) (xs : List ℕ) → Each P xs → (k : ℕ) → k < length xs → P (get_or xs k 0)
each_at P [] e k h = absurd (omega arith)
each_at P (x ∷ xs) e zero h = e.0
each_at P (x ∷ xs) e (suc k) h = each_at P xs e.1 k (omega arith)

pairwise_at : (R : ℕ → ℕ → Type 0) (xs : List ℕ) → Pairwise R xs → (a b : ℕ) → a < b → b < length xs → R (get_or xs a 0) (get_or xs b 0)
pairwise_at R [] e a b h k = absurd (omega arith)
pairwise_at R (x ∷ xs) e a zero h k = absurd (omega arith)
pairwise_at R (x ∷ xs) e zero (suc b) h k = each_at (R x) xs e.0 b (omega arith)
pairwise_at R (x ∷ xs) e (suc a) (suc b) h k = pairwise_at R xs e.1 a b (omega arith) (omega arith)

pairwise_append : (R : ℕ → ℕ → Type 0) (xs ys : List ℕ) → Pairwise R xs → Pairwise R ys → Each (λ x. Each (R x) ys) xs → Pairwise R (xs ++ ys)
pairwise_append R [] ys e f g = f
pairwise_append R (x ∷ xs) ys e f g =
    (each_append (R x) xs ys e.0 g.0, pairwise_append R xs ys e.1 f g.1)

-- where Q holds of both, R implies S
pairwise_map : {Q : ℕ → Type 0} {R S : ℕ → ℕ → Type 0} → ((x y : ℕ) → Q x → Q y → R x y → S x y) → (xs : List ℕ) → Each Q xs
    → Pairwise R xs → Pairwise S xs
pairwise_map f [] q e = tt
pairwise_map f (x ∷ xs) q e =
    (each_both (λ y qy r. f x y q.0 qy r) xs q.1 e.0, pairwise_map f xs q.1 e.1)

pairwise_suc : (xs : List ℕ) → Pairwise ◌<◌ xs → Pairwise ◌<◌ (map suc xs)
pairwise_suc [] e = tt
pairwise_suc (x ∷ xs) e = (each_suc (λ y. suc x < y) xs (each_map (λ y h. omega arith) xs e.0), pairwise_suc xs e.1)

has_cons : (x y : ℕ) (xs : List ℕ) → Has x xs → Has x (y ∷ xs)
has_cons x y xs (k, h, e) = (suc k, omega arith, e)

has_left : (x : ℕ) (xs ys : List ℕ) → Has x xs → Has x (xs ++ ys)
has_left x [] ys (k, h, e) = absurd (omega arith)
has_left x (y ∷ xs) ys (zero, h, e) = (0, omega arith, e)
has_left x (y ∷ xs) ys (suc k, h, e) = has_cons x y (xs ++ ys) (has_left x xs ys (k, omega arith, e))

has_right : (x : ℕ) (xs ys : List ℕ) → Has x ys → Has x (xs ++ ys)
has_right x [] ys h = h
has_right x (y ∷ xs) ys h = has_cons x y (xs ++ ys) (has_right x xs ys h)

has_suc : (x : ℕ) (xs : List ℕ) → Has x xs → Has (suc x) (map suc xs)
has_suc x [] (k, h, e) = absurd (omega arith)
has_suc x (y ∷ xs) (zero, h, e) = (0, omega arith, ap suc e)
has_suc x (y ∷ xs) (suc k, h, e) = has_cons (suc x) (suc y) (map suc xs) (has_suc x xs (k, omega arith, e))

-- a choice by a test for equality, by cases
module _ {A : Type 0} (P : A → Type 0) (x t : ℕ) (a b : A) where
  by_eqb : (x ≡ t → P a) → ((x ≡ t → ⊥) → P b) → P (if eqb x t then a else b)
  by_eqb f g = go (eqb x t) refl
    where
      go : (c : Bool) → eqb x t ≡ c → P (if c then a else b)
      go true e = f (eqb-true x t e)
      go false e = g (eqb-false x t e)

-- laws of a list without a number
without_each : (P : ℕ → Type 0) (t : ℕ) (xs : List ℕ) → Each P xs → Each P (without t xs)
unfolding without
without_each P t [] e = tt
without_each P t (x ∷ xs) e =
    by_eqb (Each P) x t (without t xs) (x ∷ without t xs) (λ _. without_each P t xs e.1) (λ _. (e.0, without_each P t xs e.1))

without_ne : (t : ℕ) (xs : List ℕ) → Each (λ x. x ≡ t → ⊥) (without t xs)
unfolding without
without_ne t [] = tt
without_ne t (x ∷ xs) =
    by_eqb (Each (λ y. y ≡ t → ⊥)) x t (without t xs) (x ∷ without t xs) (λ _. without_ne t xs) (λ n. (n, without_ne t xs))

without_pairwise : (R : ℕ → ℕ → Type 0) (t : ℕ) (xs : List ℕ) → Pairwise R xs → Pairwise R (without t xs)
unfolding without
without_pairwise R t [] e = tt
without_pairwise R t (x ∷ xs) e =
    by_eqb (Pairwise R) x t (without t xs) (x ∷ without t xs) (λ _. without_pairwise R t xs e.1)
    (λ _. (without_each (R x) t xs e.0, without_pairwise R t xs e.1))

without_has : (y t : ℕ) (xs : List ℕ) → (y ≡ t → ⊥) → Has y xs → Has y (without t xs)
unfolding without
without_has y t [] n (k, h, e) = absurd (omega arith)
without_has y t (x ∷ xs) n (zero, h, e) =
    by_eqb (Has y) x t (without t xs) (x ∷ without t xs) (λ z. absurd (n (sym e ∙ z))) (λ _. (0, omega arith, e))
without_has y t (x ∷ xs) n (suc k, h, e) =
    by_eqb (Has y) x t (without t xs) (x ∷ without t xs)
    (λ _. without_has y t xs n (k, omega arith, e))
    (λ _. has_cons y x (without t xs) (without_has y t xs n (k, omega arith, e)))

without_none : (t : ℕ) (xs : List ℕ) → Each (λ x. x ≡ t → ⊥) xs → without t xs ≡ xs
unfolding without
without_none t [] e = refl
without_none t (x ∷ xs) e =
    by_eqb (λ l. l ≡ x ∷ xs) x t (without t xs) (x ∷ without t xs) (λ z. absurd (e.0 z)) (λ _. ap (λ l. x ∷ l) (without_none t xs e.1))

-- the types are in the order in which they first occur
first_same : (u : List ℕ) (us : List (List ℕ)) → first_place (u ∷ us) (type_or31 u) ≡ 0
unfolding first_place
first_same u us = rw (eq-eqb (type_or31 u) (type_or31 u) refl)

first_other : (u : List ℕ) (us : List (List ℕ)) (t : ℕ) → (t ≡ type_or31 u → ⊥) → first_place (u ∷ us) t ≡ suc (first_place us t)
unfolding first_place
first_other u us t n = rw (ne_eqb (type_or31 u) t (λ e. n (sym e)))

ordered : (us : List (List ℕ)) → Pairwise (λ s t. first_place us s < first_place us t) (firsts (map type_or31 us))
unfolding firsts
ordered [] = tt
ordered (u ∷ us) =
    let t = type_or31 u in
    let L = without t (firsts (map type_or31 us)) in
    let n = without_ne t (firsts (map type_or31 us)) in (
      each_map (λ x h. omega (arith, first_same u us, first_other u us x h)) L n,
      pairwise_map (λ x y p q r. omega (arith, first_other u us x p, first_other u us y q)) L n (without_pairwise _ t _ (ordered us)),
    )

has_once : (x t : ℕ) (L : List ℕ) → Has x L → Has x (t ∷ without t L)
has_once x t L h = go (eqb x t) refl
  where
    go : (c : Bool) → eqb x t ≡ c → Has x (t ∷ without t L)
    go true e = (0, omega arith, sym (eqb-true x t e))
    go false e = has_cons x t (without t L) (without_has x t L (eqb-false x t e) h)

has_type : (us : List (List ℕ)) (i : ℕ) → i < length us → Has (type_at us i) (firsts (map type_or31 us))
unfolding firsts
has_type [] i h = absurd (omega arith)
has_type (u ∷ us) zero h = (0, omega arith, refl)
has_type (u ∷ us) (suc i) h = has_once (type_at us i) (type_or31 u) (firsts (map type_or31 us)) (has_type us i (omega arith))

-- the numbers of the units of type t, in increasing order
unfoldable places : ℕ → List (List ℕ) → List ℕ
places t [] = []
places t (u ∷ us) = if eqb (type_or31 u) t then 0 ∷ map suc (places t us) else map suc (places t us)

abbrev OfType : ℕ → List (List ℕ) → ℕ → Type 0
OfType t us i = (i < length us) × (type_at us i ≡ t)

type_step : (t : ℕ) (u : List ℕ) (us : List (List ℕ)) (ps : List ℕ) → Each (OfType t us) ps
    → Each (OfType t (u ∷ us)) (if eqb (type_or31 u) t then 0 ∷ map suc ps else map suc ps)
type_step t u us ps h =
    let after = each_suc (OfType t (u ∷ us)) ps (each_map (λ i k. (omega arith, k.1)) ps h) in
    by_eqb (Each (OfType t (u ∷ us))) (type_or31 u) t (0 ∷ map suc ps) (map suc ps) (λ e. ((omega arith, e), after)) (λ _. after)

places_type : (t : ℕ) (us : List (List ℕ)) → Each (OfType t us) (places t us)
unfolding places
places_type t [] = tt
places_type t (u ∷ us) = type_step t u us (places t us) (places_type t us)

places_rise : (t : ℕ) (us : List (List ℕ)) → Pairwise ◌<◌ (places t us)
unfolding places
places_rise t [] = tt
places_rise t (u ∷ us) =
    by_eqb (Pairwise ◌<◌) (type_or31 u) t (0 ∷ map suc (places t us)) (map suc (places t us))
    (λ _. (
      each_suc (λ y. 0 < y) (places t us) (each_map (λ i h. omega arith) (places t us) (places_type t us)),
      pairwise_suc (places t us) (places_rise t us),
    ))
    (λ _. pairwise_suc (places t us) (places_rise t us))

has_step : (t : ℕ) (u : List ℕ) (ps : List ℕ) (i : ℕ) → Has i ps → Has (suc i) (if eqb (type_or31 u) t then 0 ∷ map suc ps else map suc ps)
has_step t u ps i h =
    by_eqb (Has (suc i)) (type_or31 u) t (0 ∷ map suc ps) (map suc ps) (λ _. has_cons (suc i) 0 (map suc ps) (has_suc i ps h)) (λ _. has_suc i ps h)

places_has : (t : ℕ) (us : List (List ℕ)) (i : ℕ) → i < length us → type_at us i ≡ t → Has i (places t us)
unfolding places
places_has t [] i h e = absurd (omega arith)
places_has t (u ∷ us) zero h e =
    by_eqb (Has 0) (type_or31 u) t (0 ∷ map suc (places t us)) (map suc (places t us)) (λ _. (0, omega arith, refl)) (λ n. absurd (n e))
places_has t (u ∷ us) (suc i) h e = has_step t u (places t us) i (places_has t us i (omega arith) e)

units_after : (u : List ℕ) (us : List (List ℕ)) (ps : List ℕ) → map (λ i. get_or (u ∷ us) i []) (map suc ps) ≡ map (λ i. get_or us i []) ps
units_after u us [] = refl
units_after u us (p ∷ ps) = ap (λ l. get_or us p [] ∷ l) (units_after u us ps)

units_step : (c : Bool) (u : List ℕ) (us vs : List (List ℕ)) (ps : List ℕ) → vs ≡ map (λ i. get_or us i []) ps
    → (if c then u ∷ vs else vs) ≡ map (λ i. get_or (u ∷ us) i []) (if c then 0 ∷ map suc ps else map suc ps)
units_step true u us vs ps e = ap (λ l. u ∷ l) (e ∙ sym (units_after u us ps))
units_step false u us vs ps e = e ∙ sym (units_after u us ps)

places_units : (t : ℕ) (us : List (List ℕ)) → having_type t us ≡ map (λ i. get_or us i []) (places t us)
unfolding places having_type
places_units t [] = refl
places_units t (u ∷ us) = units_step (eqb (type_or31 u) t) u us (having_type t us) (places t us) (places_units t us)

-- the numbers of the units, type after type
unfoldable flat : List (List ℕ) → List ℕ → List ℕ
flat us [] = []
flat us (t ∷ ts) = places t us ++ flat us ts

map_append : (f : ℕ → List ℕ) (xs ys : List ℕ) → map f (xs ++ ys) ≡ map f xs ++ map f ys
map_append f [] ys = refl
map_append f (x ∷ xs) ys = ap (λ l. f x ∷ l) (map_append f xs ys)

flat_units : (us : List (List ℕ)) (ts : List ℕ) → units_of (map (group us) ts) ≡ map (λ i. get_or us i []) (flat us ts)
unfolding flat units_of
flat_units us [] = refl
flat_units us (t ∷ ts) = rw (places_units t us, flat_units us ts) (sym (map_append _ (places t us) (flat us ts)))

flat_has : (us : List (List ℕ)) (ts : List ℕ) (t i : ℕ) → Has t ts → Has i (places t us) → Has i (flat us ts)
unfolding flat
flat_has us [] t i (k, h, e) p = absurd (omega arith)
flat_has us (s ∷ ts) t i (zero, h, e) p = has_left i (places s us) (flat us ts) (rw e p)
flat_has us (s ∷ ts) t i (suc k, h, e) p = has_right i (places s us) (flat us ts) (flat_has us ts t i (k, omega arith, e) p)

-- what holds of the types holds of the units' types
flat_each : (P : ℕ → Type 0) (us : List (List ℕ)) (ts : List ℕ) → Each P ts → Each (λ i. P (type_at us i)) (flat us ts)
unfolding flat
flat_each P us [] e = tt
flat_each P us (t ∷ ts) e = each_append _ (places t us) (flat us ts) (each_map (λ i h. subst P (sym h.1) e.0) (places t us) (places_type t us))
    (flat_each P us ts e.1)

flat_sorted : (us : List (List ℕ)) (ts : List ℕ) → Pairwise (λ s t. first_place us s < first_place us t) ts → Pairwise (Before us) (flat us ts)
unfolding flat
flat_sorted us [] e = tt
flat_sorted us (t ∷ ts) e =
    pairwise_append (Before us) (places t us) (flat us ts)
    (pairwise_map (λ i j p q r. inr (p.1 ∙ sym q.1, r)) (places t us) (places_type t us) (places_rise t us))
    (flat_sorted us ts e.1)
    (each_map (λ i p. each_map (λ j h. inl (rw p.1 h)) (flat us ts) (flat_each (λ s. first_place us t < first_place us s) us ts e.0))
    (places t us) (places_type t us))

-- there are as many numbers as units
places_same : (u : List ℕ) (us : List (List ℕ)) → length (places (type_or31 u) (u ∷ us)) ≡ suc (length (places (type_or31 u) us))
unfolding places
places_same u us = rw (eq-eqb (type_or31 u) (type_or31 u) refl) (ap suc (length-map (places (type_or31 u) us) suc))

places_other : (u : List ℕ) (us : List (List ℕ)) (t : ℕ) → (t ≡ type_or31 u → ⊥) → length (places t (u ∷ us)) ≡ length (places t us)
unfolding places
places_other u us t n = rw (ne_eqb (type_or31 u) t (λ e. n (sym e))) (length-map (places t us) suc)

flat_other : (u : List ℕ) (us : List (List ℕ)) (ts : List ℕ) → Each (λ t. t ≡ type_or31 u → ⊥) ts → length (flat (u ∷ us) ts) ≡ length (flat us ts)
unfolding flat
flat_other u us [] e = refl
flat_other u us (t ∷ ts) e = omega (
  arith,
  length-append (places t (u ∷ us)) (flat (u ∷ us) ts),
  length-append (places t us) (flat us ts),
  places_other u us t e.0,
  flat_other u us ts e.1,
)

flat_split : (us : List (List ℕ)) (t : ℕ) (ts : List ℕ) → Pairwise (λ x y. x ≡ y → ⊥) ts → ((Has t ts → ⊥) → length (places t us) ≡ 0)
    → length (places t us) + length (flat us (without t ts)) ≡ length (flat us ts)
unfolding flat without
flat_split us t [] d h = omega (arith, h (λ p. omega (arith, p.1)))
flat_split us t (x ∷ ts) d h =
    by_eqb (λ l. length (places t us) + length (flat us l) ≡ length (places x us ++ flat us ts)) x t (without t ts) (x ∷ without t ts)
    (λ e. rw (without_none t ts (each_map (λ y n z. n (e ∙ sym z)) ts d.0), e) (sym (length-append (places t us) (flat us ts))))
    (λ n.
    omega (
      arith,
      length-append (places x us) (flat us ts),
      length-append (places x us) (flat us (without t ts)),
      flat_split us t ts d.1 (λ g. h (λ p. g (back n p))),
    ))
  where
    back : (x ≡ t → ⊥) → Has t (x ∷ ts) → Has t ts
    back n (zero, k, e) = absurd (n e)
    back n (suc j, k, e) = (j, omega arith, e)

flat_count : (us : List (List ℕ)) → length (flat us (firsts (map type_or31 us))) ≡ length us
unfolding flat firsts
flat_count [] = refl
flat_count (u ∷ us) =
    let t = type_or31 u in
    let L = firsts (map type_or31 us) in
    let d : Pairwise (λ x y. x ≡ y → ⊥) L = pairwise_map {Q = λ _. Unit {0}} (λ x y p q r e. omega (arith, ap (first_place us) e)) L
    (all L) (ordered us) in
    omega (
      arith,
      length-append (places t (u ∷ us)) (flat (u ∷ us) (without t L)),
      places_same u us,
      flat_other u us (without t L) (without_ne t L),
      flat_split us t L d (none t),
      flat_count us,
    )
  where
    all : (xs : List ℕ) → Each (λ _. Unit {0}) xs
    all [] = tt
    all (x ∷ xs) = (tt, all xs)

    none : (t : ℕ) → (Has t (firsts (map type_or31 us)) → ⊥) → length (places t us) ≡ 0
    none t n = go (places t us) (places_type t us)
      where
        go : (ps : List ℕ) → Each (OfType t us) ps → length ps ≡ 0
        go [] e = refl
        go (i ∷ ps) e = absurd (n (subst (λ x. Has x (firsts (map type_or31 us))) e.0.1 (has_type us i e.0.0)))

-- Before is a strict order
before_not_back : (us : List (List ℕ)) (i j : ℕ) → Before us i j → Before us j i → ⊥
before_not_back us i j (inl p) (inl q) = omega arith
before_not_back us i j (inl p) (inr q) = omega (arith, ap (first_place us) q.0)
before_not_back us i j (inr p) (inl q) = omega (arith, ap (first_place us) p.0)
before_not_back us i j (inr p) (inr q) = omega arith

module _ (us : List (List ℕ)) where
  abbrev in_order_lem : List ℕ
  in_order_lem = flat us (firsts (map type_or31 us))

  in_order_sorted : (a b : ℕ) → a < length us → b < length us → a < b → Before us (get_or in_order_lem a 0) (get_or in_order_lem b 0)
  in_order_sorted a b h k l =
      pairwise_at (Before us) in_order_lem (flat_sorted us (firsts (map type_or31 us)) (ordered us)) a b l (omega (arith, flat_count us))

  in_order_only : (a b : ℕ) → a < length us → b < length us → Before us (get_or in_order_lem a 0) (get_or in_order_lem b 0) → a < b
  in_order_only a b h k p =
      elim (dec_le (suc a) b) [
        | yes l ↦ l
        | no l ↦ absurd (elim (dec_le (suc b) a) [
          | yes m ↦ before_not_back us _ _ p (in_order_sorted b a k h m)
          | no m ↦ let e : a ≡ b = omega arith in let q = subst (λ x. Before us (get_or in_order_lem a 0) (get_or in_order_lem x 0)) (sym e) p in
              before_not_back us _ _ q q
        ])
      ]

  in_order_once : (a b : ℕ) → a < length us → b < length us → get_or in_order_lem a 0 ≡ get_or in_order_lem b 0 → a ≡ b
  in_order_once a b h k e =
      elim (dec_le (suc a) b) [
        | yes l ↦ absurd (same (subst (λ x. Before us (get_or in_order_lem a 0) x) (sym e) (in_order_sorted a b h k l)))
        | no l ↦ elim (dec_le (suc b) a) [
          | yes m ↦ absurd (same (subst (λ x. Before us x (get_or in_order_lem a 0)) (sym e) (in_order_sorted b a k h m)))
          | no m ↦ omega arith
        ]
      ]
    where
      same : Before us (get_or in_order_lem a 0) (get_or in_order_lem a 0) → ⊥
      same p = before_not_back us _ _ p p

  in_order_each : (i : ℕ) → i < length us → (k : ℕ) × (k < length us) × (get_or in_order_lem k 0 ≡ i)
  in_order_each i h =
      let r = flat_has us (firsts (map type_or31 us)) (type_at us i) i (has_type us i h) (places_has (type_at us i) us i h refl) in
      (r.0, omega (arith, r.1, flat_count us), r.2)

  pub grouped_as : GroupedAs us (units_of (grouped us))
  unfolding grouped
  grouped_as = record {
    order = in_order_lem;
    count = flat_count us;
    units = flat_units us (firsts (map type_or31 us));
    each = in_order_each;
    once = in_order_once;
    sorted = in_order_sorted;
    sorted_only = in_order_only;
  }
