-- Laws of `trim`: what a last byte does, and that what is left is the front.
use Prim.Native.Nat.{ℕ, zero, suc, ◌+◌, ◌-◌, ◌≤◌, ◌<◌}
use mathlib.Core.Path.{◌≡◌, refl, sym, ap, ◌∙◌}
use mathlib.Core.List.{List, [], ◌∷◌, ◌++◌}
use native.Mathlib.Omega.{arith}
use lib.ListN.{length, get_or, take, drop, length-take, length-drop}
use lib.Seq.{take-suc, get_or-drop, length-take-le, take-length}
use Rattle.annex_b.specs.Stream.{trim_onto, trim}

pub trim_nil : trim [] ≡ []
unfolding trim
trim_nil = refl

-- a last zero is cut off
pub trim_zero : (l : List ℕ) → trim (l ++ 0 ∷ []) ≡ trim l
unfolding trim trim_onto
trim_zero [] = refl
trim_zero (x ∷ l) = ap (trim_onto x) (trim_zero l)

onto_some : (x : ℕ) (r t : List ℕ) → t ≡ r → 0 < length r → trim_onto x t ≡ x ∷ r
unfolding trim_onto
onto_some x r [] e h = absurd (let w : length r ≡ 0 = sym (ap length e) in omega arith)
onto_some x r (y ∷ t) e h = rw e

onto_none : (x : ℕ) → (x ≡ 0 → ⊥) → trim_onto x [] ≡ x ∷ []
unfolding trim_onto
onto_none zero h = absurd (h refl)
onto_none (suc x) h = refl

some_last : (l : List ℕ) (x : ℕ) → 0 < length (l ++ x ∷ [])
some_last [] x = omega arith
some_last (y ∷ l) x = omega arith

-- where the last byte is another, nothing is cut off
pub trim_other : (l : List ℕ) (x : ℕ) → (x ≡ 0 → ⊥) → trim (l ++ x ∷ []) ≡ l ++ x ∷ []
unfolding trim
trim_other [] x h = onto_none x h
trim_other (y ∷ l) x h = onto_some y (l ++ x ∷ []) (trim (l ++ x ∷ [])) (trim_other l x h) (some_last l x)

-- what is left is the front of what was there
onto_front : (x : ℕ) (r t : List ℕ) → take (length t) r ≡ t → take (length (trim_onto x t)) (x ∷ r) ≡ trim_onto x t
unfolding trim_onto
onto_front zero r [] e = refl
onto_front (suc x) r [] e = ap (λ (l : List ℕ). suc x ∷ l) e
onto_front x r (y ∷ t) e = ap (λ (l : List ℕ). x ∷ l) e

pub trim_front : (l : List ℕ) → take (length (trim l)) l ≡ trim l
unfolding trim
trim_front [] = refl
trim_front (x ∷ l) = onto_front x l (trim l) (trim_front l)

pub trim_le : (l : List ℕ) → length (trim l) ≤ length l
trim_le l = let e = ap length (trim_front l) in let k = length-take (length (trim l)) l in omega arith

-- ### by places

module _ (s : List ℕ) (from end : ℕ) (some : from < end) (inside : end ≤ length s) where
  last_byte : take (end - from) (drop from s) ≡ take (end - 1 - from) (drop from s) ++ (get_or s (end - 1) 0 ∷ [])
  last_byte =
      let e : end - from ≡ suc (end - 1 - from) = omega arith in
      let l : length (drop from s) ≡ length s - from = length-drop from s in
      let p : from + (end - 1 - from) ≡ end - 1 = omega arith in
      let g : get_or (drop from s) (end - 1 - from) 0 ≡ get_or s (end - 1) 0 = get_or-drop from s (end - 1 - from) 0 ∙ ap (λ (j : ℕ). get_or s j 0) p in
      rw (e, take-suc (drop from s) (end - 1 - from) 0 (omega arith), g)

  pub trim_falls : get_or s (end - 1) 0 ≡ 0 → trim (take (end - 1 - from) (drop from s)) ≡ trim (take (end - from) (drop from s))
  trim_falls z = rw (last_byte, z) (sym (trim_zero (take (end - 1 - from) (drop from s))))

  pub trim_stays : (get_or s (end - 1) 0 ≡ 0 → ⊥) → length (trim (take (end - from) (drop from s))) ≡ end - from
  trim_stays z =
      let t : trim (take (end - from) (drop from s)) ≡ take (end - from) (drop from s) =
      rw last_byte (trim_other (take (end - 1 - from) (drop from s)) (get_or s (end - 1) 0) z) in
      let l : length (drop from s) ≡ length s - from = length-drop from s in
      ap length t ∙ length-take-le (end - from) (drop from s) (omega arith)

-- a unit that does not end in zero is left as it is
pub trim_whole : (u : List ℕ) → 0 < length u → (get_or u (length u - 1) 0 ≡ 0 → ⊥) → trim u ≡ u
trim_whole u some ends =
    let t = trim_stays u 0 (length u) some (omega arith) ends in
    let z : length u - 0 ≡ length u = omega arith in
    let l : length (trim u) ≡ length u = ap (λ (l : List ℕ). length (trim l)) (sym (take-length u)) ∙ (rw z at t) in
    sym (trim_front u) ∙ (rw l (take-length u))
