-- The order of SCOPE 5.2 is unique: two lists of the same units in it are equal.
use Prim.Native.Nat.{ℕ, zero, suc, ◌≤◌, ◌<◌}
use native.Mathlib.Omega.{arith}
use native.Mathlib.Decide.{dec_le}
use mathlib.Core.Path.{◌≡◌, refl, sym, ap, ◌∙◌, subst}
use mathlib.Core.Bool.{Bool, true, false}
use mathlib.Core.List.{List, [], map}
use lib.Dec.{leb}
use lib.ListN.{length, get_or}
use lib.Seq.{ext_get_or}
use borrow.Author.Tests.{leb-true, leb-false}
use Rattle.grouping.specs.Order.{Before, GroupedAs}

-- m + 1 numbers do not fit m places, one each: the last takes the place of the one at m
module _ (m : ℕ) (f : ℕ → ℕ) (small : (i : ℕ) → i < suc (suc m) → f i < suc m)
    (once : (i j : ℕ) → i < suc (suc m) → j < suc (suc m) → f i ≡ f j → i ≡ j) where
  abbrev pick : Bool → ℕ → ℕ
  pick true x = f (suc m)
  pick false x = x

  moved_small : (i : ℕ) → i < suc m → pick (leb m (f i)) (f i) < m
  moved_small i h = go (leb m (f i)) refl
    where
      go : (c : Bool) → leb m (f i) ≡ c → pick c (f i) < m
      go false e = leb-false m (f i) e
      go true e =
          elim (dec_le m (f (suc m))) [
            | no l ↦ omega arith
            | yes l ↦ absurd (omega (
              arith,
              once i (suc m) (omega arith) (omega arith) (omega (arith, leb-true m (f i) e, small i (omega arith), small (suc m) (omega arith))),
            ))
          ]

  moved_once : (i j : ℕ) → i < suc m → j < suc m → pick (leb m (f i)) (f i) ≡ pick (leb m (f j)) (f j) → i ≡ j
  moved_once i j h k e = go (leb m (f i)) (leb m (f j)) refl refl e
    where
      go : (c d : Bool) → leb m (f i) ≡ c → leb m (f j) ≡ d → pick c (f i) ≡ pick d (f j) → i ≡ j
      go true true a b e =
          once i j (omega arith) (omega arith) (omega (arith, leb-true m (f i) a, leb-true m (f j) b, small i (omega arith), small j (omega arith)))
      go true false a b e = absurd (omega (arith, once (suc m) j (omega arith) (omega arith) e))
      go false true a b e = absurd (omega (arith, once i (suc m) (omega arith) (omega arith) e))
      go false false a b e = once i j (omega arith) (omega arith) e

no_room : (m : ℕ) (f : ℕ → ℕ) → ((i : ℕ) → i < suc m → f i < m) → ((i j : ℕ) → i < suc m → j < suc m → f i ≡ f j → i ≡ j) → ⊥
no_room zero f small once = omega (arith, small 0 (omega arith))
no_room (suc m) f small once = no_room m (λ i. pick m f small once (leb m (f i)) (f i)) (moved_small m f small once) (moved_once m f small once)

-- each place has one of the units
module _ (us gs : List (List ℕ)) (g : GroupedAs us gs) (k : ℕ) (h : k < length us) (far : length us ≤ get_or g.order k 0) where
  abbrev place : (i : ℕ) → Dec (suc i ≤ length us) → ℕ
  place i (yes l) = (g.each i l).0
  place i (no l) = k

  place_small : (i : ℕ) (d : Dec (suc i ≤ length us)) → place i d < length us
  place_small i (yes l) = (g.each i l).1
  place_small i (no l) = h

  place_once : (i j : ℕ) → i < suc (length us) → j < suc (length us) → (d : Dec (suc i ≤ length us)) (e : Dec (suc j ≤ length us))
      → place i d ≡ place j e → i ≡ j
  place_once i j a b (yes l) (yes n) e = sym (g.each i l).2 ∙ ap (λ (x : ℕ). get_or g.order x 0) e ∙ (g.each j n).2
  place_once i j a b (yes l) (no n) e = absurd (let z = sym (g.each i l).2 ∙ ap (λ (x : ℕ). get_or g.order x 0) e in omega arith)
  place_once i j a b (no l) (yes n) e = absurd (let z = ap (λ (x : ℕ). get_or g.order x 0) e ∙ (g.each j n).2 in omega arith)
  place_once i j a b (no l) (no n) e = omega arith

  none_far : ⊥
  none_far = no_room (length us) (λ i. place i (dec_le (suc i) (length us))) (λ i _. place_small i (dec_le (suc i) (length us)))
      (λ i j a b. place_once i j a b (dec_le (suc i) (length us)) (dec_le (suc j) (length us)))

inside : (us gs : List (List ℕ)) (g : GroupedAs us gs) (k : ℕ) → k < length us → get_or g.order k 0 < length us
inside us gs g k h =
    elim (dec_le (length us) (get_or g.order k 0)) [
      | yes l ↦ absurd (none_far us gs g k h l)
      | no l ↦ omega arith
    ]

module _ (us gs hs : List (List ℕ)) (g : GroupedAs us gs) (h : GroupedAs us hs) where
  -- where the places before k have the same units, so does place k
  next : (k : ℕ) → k < length us → ((j : ℕ) → j < k → get_or g.order j 0 ≡ get_or h.order j 0) → get_or g.order k 0 ≡ get_or h.order k 0
  next k l same =
      let a = h.each (get_or g.order k 0) (inside us gs g k l) in
      let b = g.each (get_or h.order k 0) (inside us hs h k l) in
      elim (dec_le (suc a.0) k) [
        | yes m ↦ absurd (omega (arith, g.once a.0 k a.1 l (same a.0 m ∙ a.2)))
        | no m ↦
            elim (dec_le (suc b.0) k) [
              | yes n ↦ absurd (omega (arith, h.once b.0 k b.1 l (sym (same b.0 n) ∙ b.2)))
              | no n ↦
                  elim (dec_le a.0 k) [
                    | yes o ↦ sym a.2 ∙ ap (λ (x : ℕ). get_or h.order x 0) (omega arith)
                    | no o ↦
                        absurd (omega (
                          arith,
                          g.sorted_only b.0 k b.1 l
                              (subst (λ (x : ℕ). Before us x (get_or g.order k 0)) (sym b.2)
                              (subst (λ (x : ℕ). Before us (get_or h.order k 0) x) a.2 (h.sorted k a.0 l a.1 (omega arith)))),
                        ))
                  ]
            ]
      ]

  before : (n k : ℕ) → k < n → n ≤ length us → get_or g.order k 0 ≡ get_or h.order k 0
  before zero k a b = absurd (omega arith)
  before (suc n) k a b =
      elim (dec_le (suc k) n) [
        | yes l ↦ before n k l (omega arith)
        | no l ↦ let e : n ≡ k = omega arith in
            subst (λ (x : ℕ). get_or g.order x 0 ≡ get_or h.order x 0) e (next n (omega arith) (λ j m. before n j m (omega arith)))
      ]

  pub one_order : gs ≡ hs
  one_order =
      g.units
      ∙ ap (map (λ i. get_or us i []))
      (ext_get_or 0 g.order h.order (g.count ∙ sym h.count) (λ i l. before (length us) i (omega (arith, g.count)) (omega arith)))
      ∙ sym h.units
