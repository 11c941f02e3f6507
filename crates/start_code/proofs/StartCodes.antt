-- What the scan for start codes finds, in plain terms, and what it finds after a part without one.
use Prim.Native.Nat.{ℕ, suc, ◌+◌, ◌-◌, ◌≤◌, ◌<◌}
use mathlib.Core.Path.{◌≡◌, refl, sym, ap, ◌∙◌}
use mathlib.Core.Bool.{Bool, true, false, ◌&&◌}
use mathlib.Core.List.{List, [], ◌∷◌, ◌++◌, append_assoc}
use native.Mathlib.Omega.{arith}
use native.Mathlib.Decide.{dec_le}
use lib.Dec.{eqb}
use lib.ListN.{length, get_or, drop, length-drop, length-append}
use borrow.Author.Tests.{eqb-true, eq-eqb}
use Rattle.std.proofs.lemmas.Bool.{false_from_ne_true}
use Rattle.std.specs.Prelude.{if◌then◌else◌}
use Rattle.parse.proofs.General.{both_true}
use Rattle.start_code.specs.StartCode.{bytes_before, starts_with_code, scan}
use Rattle.start_code.proofs.FirstPlaces.{
  ZerosAt,
  drop_three,
  before_le,
  before_found,
  before_first,
  before_stays,
  before_from,
  before_here,
  before_next,
  before_past,
  before_jump,
  before_end,
}

-- the bytes 00 00 01 are in s from place i on
pub record CodeAt (s : List ℕ) (i : ℕ) : Type 0 where
  pub inside : i + 2 < length s
  pub first : get_or s i 0 ≡ 0
  pub second : get_or s (i + 1) 0 ≡ 0
  pub third : get_or s (i + 2) 0 ≡ 1

-- ### the test at a place

code_short : (s : List ℕ) → length s < 3 → starts_with_code s ≡ false
unfolding starts_with_code
code_short [] h = refl
code_short (x ∷ []) h = refl
code_short (x ∷ y ∷ []) h = refl
code_short (x ∷ y ∷ z ∷ r) h = absurd (omega arith)

module _ (s : List ℕ) (i : ℕ) where
  code_test : i + 2 < length s → starts_with_code (drop i s) ≡ eqb (get_or s (i + 2) 0) 1 && (eqb (get_or s (i + 1) 0) 0 && eqb (get_or s i 0) 0)
  unfolding starts_with_code
  code_test h = ap starts_with_code (drop_three s i h)

  pub code_at : starts_with_code (drop i s) ≡ true → CodeAt s i
  code_at e =
      elim (dec_le (i + 3) (length s)) [
        | yes k ↦ (
            let p = both_true _ _ (sym (code_test (omega arith)) ∙ e) in
            let q = both_true _ _ p.1 in
            record { inside = omega arith; first = eqb-true _ 0 q.1; second = eqb-true _ 0 q.0; third = eqb-true _ 1 p.0 })
        | no k ↦ (let f = code_short (drop i s) (omega (arith, length-drop i s)) in let z : ◌≡◌ {A = ℕ} 0 1 = cc in absurd (omega arith))
      ]

  pub at_code : CodeAt s i → starts_with_code (drop i s) ≡ true
  at_code c = code_test c.inside ∙ rw (eq-eqb _ 1 c.third, eq-eqb _ 0 c.second, eq-eqb _ 0 c.first)

-- a start code is two zeros and a byte of at most 1
code_zeros : (s : List ℕ) (i : ℕ) → starts_with_code (drop i s) ≡ true → ZerosAt 1 s i
code_zeros s i e = let c = code_at s i e in record { inside = c.inside; first = c.first; second = c.second; third = omega (arith, c.third) }

-- ### in plain terms

module _ (s : List ℕ) where
  pub scan_le : scan s ≤ length s
  unfolding scan
  scan_le = before_le starts_with_code s

  -- below the length there is a start code at the place that the scan finds
  pub scan_found : scan s < length s → CodeAt s (scan s)
  unfolding scan
  scan_found h = code_at s (bytes_before starts_with_code s) (before_found starts_with_code s h)

  -- the scan ends at the length exactly where there is no start code
  pub scan_none : ((i : ℕ) → CodeAt s i → ⊥) → scan s ≡ length s
  scan_none none =
      elim (dec_le (length s) (scan s)) [
        | yes k ↦ (let h = scan_le in omega arith)
        | no k ↦ absurd (none (scan s) (scan_found (omega arith)))
      ]

  pub none_scan : scan s ≡ length s → (i : ℕ) → CodeAt s i → ⊥
  unfolding scan
  none_scan e i c =
      let f = before_first starts_with_code s i (omega (arith, c.inside)) in
      let t = at_code s i c in
      let z : ◌≡◌ {A = ℕ} 0 1 = cc in
      omega arith

  -- ### from place to place

  -- from where the scan stopped it stops at once
  pub scan_stays : (p : ℕ) → scan (drop (p + scan (drop p s)) s) ≡ 0
  unfolding scan
  scan_stays = before_stays starts_with_code s

  -- from anywhere before the start code that follows, it finds that one
  pub scan_from : (p n : ℕ) → n ≤ scan (drop p s) → p + n + scan (drop (p + n) s) ≡ p + scan (drop p s)
  unfolding scan
  scan_from = before_from starts_with_code s

  -- the turns of a search
  module _ (i : ℕ) where
    pub scan_hit : CodeAt s i → scan (drop i s) ≡ 0
    unfolding scan
    scan_hit c = before_here starts_with_code (drop i s) (at_code s i c)

    no_code : (CodeAt s i → ⊥) → starts_with_code (drop i s) ≡ false
    no_code none = false_from_ne_true (starts_with_code (drop i s)) (λ e. none (code_at s i e))

    pub scan_next : i < length s → (CodeAt s i → ⊥) → scan (drop i s) ≡ suc (scan (drop (i + 1) s))
    unfolding scan
    scan_next h none = before_next starts_with_code s i h (no_code none)

    module _ (room : i + 2 < length s) where
      pub scan_past : (get_or s (i + 2) 0 ≡ 0 → ⊥) → (CodeAt s i → ⊥) → scan (drop i s) ≡ 3 + scan (drop (i + 3) s)
      unfolding scan
      scan_past some none = before_past starts_with_code 1 code_zeros s i room some (no_code none)

      pub scan_jump : 1 < get_or s (i + 2) 0 → scan (drop i s) ≡ 3 + scan (drop (i + 3) s)
      unfolding scan
      scan_jump = before_jump starts_with_code 1 code_zeros s i room

    pub scan_end : i ≤ length s → length s - i < 3 → i + scan (drop i s) ≡ length s
    unfolding scan
    scan_end = before_end starts_with_code 1 code_zeros s i

-- ### after a part without a start code

free_tail : (x : ℕ) (r : List ℕ) → scan (x ∷ r) ≡ length (x ∷ r) → (starts_with_code (x ∷ r) ≡ false) × (scan r ≡ length r)
unfolding scan bytes_before
free_tail x r = go (starts_with_code (x ∷ r)) refl
  where
    go : (t : Bool) → starts_with_code (x ∷ r) ≡ t → (if t then 0 else suc (bytes_before starts_with_code r)) ≡ length (x ∷ r)
        → (starts_with_code (x ∷ r) ≡ false) × (bytes_before starts_with_code r ≡ length r)
    go true e h = absurd (omega arith)
    go false e h = (e, omega arith)

-- the scan finds the start code that follows
pub scan_then_code : (u r : List ℕ) → scan u ≡ length u → scan (u ++ 0 ∷ 0 ∷ 1 ∷ r) ≡ length u
unfolding scan bytes_before starts_with_code
scan_then_code [] r h = refl
scan_then_code (x ∷ []) r h = refl
scan_then_code (x ∷ y ∷ []) r h = refl
scan_then_code (x ∷ y ∷ z ∷ u) r h =
    let p = free_tail x (y ∷ z ∷ u) h in
    rw (p.0, scan_then_code (y ∷ z ∷ u) r p.1)

-- one more zero makes no start code
scan_zero : (u : List ℕ) → scan u ≡ length u → scan (u ++ 0 ∷ []) ≡ suc (length u)
unfolding scan bytes_before starts_with_code
scan_zero [] h = refl
scan_zero (x ∷ []) h = refl
scan_zero (x ∷ y ∷ []) h = refl
scan_zero (x ∷ y ∷ z ∷ u) h =
    let p = free_tail x (y ∷ z ∷ u) h in
    rw (p.0, scan_zero (y ∷ z ∷ u) p.1)

-- the scan stops before the zero byte of a start code of four bytes
pub scan_then_four : (u r : List ℕ) → scan u ≡ length u → scan (u ++ 0 ∷ 0 ∷ 0 ∷ 1 ∷ r) ≡ suc (length u)
scan_then_four u r h =
    let l : length (u ++ 0 ∷ []) ≡ suc (length u) = length-append u (0 ∷ []) ∙ omega arith in
    ap scan (sym (append_assoc u (0 ∷ []) (0 ∷ 0 ∷ 1 ∷ r))) ∙ scan_then_code (u ++ 0 ∷ []) r (scan_zero u h ∙ sym l) ∙ l
