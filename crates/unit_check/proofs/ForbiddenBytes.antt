-- What may not occur in a unit, in plain terms, and the steps of a search for it.
use Prim.Native.Nat.{ℕ, ◌+◌, ◌-◌, ◌≤◌, ◌<◌}
use mathlib.Core.Path.{◌≡◌, refl, sym, ap, ◌∙◌}
use mathlib.Core.Bool.{true, false, ◌&&◌, ◌||◌}
use mathlib.Core.List.{List, [], ◌∷◌}
use mathlib.Core.Logic.{◌⊎◌, ⊎_elim, inl, inr}
use native.Mathlib.Omega.{arith}
use native.Mathlib.Decide.{dec_le}
use lib.Dec.{eqb, leb, ltb}
use lib.ListN.{length, get_or, drop, length-drop, drop_of_length-le}
use lib.Seq.{drop-cons}
use borrow.Author.Tests.{eqb-true, eq-eqb, ne_eqb, le-leb, lt-leb, ltb-true, lt-ltb}
use Rattle.parse.proofs.General.{both_true}
use Rattle.start_code.specs.StartCode.{bytes_before}
use Rattle.unit_check.specs.UnitCheck.{above_three, starts_forbidden}
use Rattle.start_code.proofs.FirstPlaces.{ZerosAt, drop_three, before_past, before_jump, before_end}

-- a byte above 03 is at place i
pub record AboveAt (u : List ℕ) (i : ℕ) : Type 0 where
  pub inside : i < length u
  pub above : 3 < get_or u i 0

-- 00 00 00, 00 00 01 or 00 00 02 are at place i, or 00 00 03 and a byte above 03
pub record ForbiddenAt (u : List ℕ) (i : ℕ) : Type 0 where
  pub zeros : ZerosAt 3 u i
  pub why : (get_or u (i + 2) 0 ≤ 2) ⊎ AboveAt u (i + 3)

-- ### the tests at a place

module _ (u : List ℕ) (i : ℕ) where
  pub above_past : length u ≤ i → above_three (drop i u) ≡ false
  above_past h = ap above_three (drop_of_length-le u {i = i} h)

  pub above_byte : i < length u → above_three (drop i u) ≡ ltb 3 (get_or u i 0)
  above_byte h = ap above_three (drop-cons u i 0 h)

  above_at : above_three (drop i u) ≡ true → AboveAt u i
  above_at e =
      elim (dec_le (length u) i) [
        | yes k ↦ (let f = above_past k in let z : ◌≡◌ {A = ℕ} 0 1 = cc in absurd (omega arith))
        | no k ↦ record { inside = omega arith; above = ltb-true 3 _ (sym (above_byte (omega arith)) ∙ e) }
      ]

  at_above : AboveAt u i → above_three (drop i u) ≡ true
  at_above a = above_byte a.inside ∙ lt-ltb 3 _ a.above

forbidden_short : (s : List ℕ) → length s < 3 → starts_forbidden s ≡ false
unfolding starts_forbidden
forbidden_short [] h = refl
forbidden_short (x ∷ []) h = refl
forbidden_short (x ∷ y ∷ []) h = refl
forbidden_short (x ∷ y ∷ z ∷ r) h = absurd (omega arith)

module _ (u : List ℕ) (i : ℕ) where
  pub forbidden_test : i + 2 < length u → starts_forbidden (drop i u)
      ≡ (eqb (get_or u i 0) 0 && eqb (get_or u (i + 1) 0) 0) && (leb (get_or u (i + 2) 0) 2 || (eqb (get_or u (i + 2) 0) 3 && above_three (drop (i + 3) u)))
  unfolding starts_forbidden
  forbidden_test h = ap starts_forbidden (drop_three u i h)

  -- byte by byte
  module _ (room : i + 2 < length u) where
    pub first_not : (get_or u i 0 ≡ 0 → ⊥) → starts_forbidden (drop i u) ≡ false
    first_not n = forbidden_test room ∙ rw (ne_eqb _ 0 n)

    pub second_not : get_or u i 0 ≡ 0 → (get_or u (i + 1) 0 ≡ 0 → ⊥) → starts_forbidden (drop i u) ≡ false
    second_not e n = forbidden_test room ∙ rw (eq-eqb _ 0 e, ne_eqb _ 0 n)

    module _ (first : get_or u i 0 ≡ 0) (second : get_or u (i + 1) 0 ≡ 0) where
      pub third_low : get_or u (i + 2) 0 ≤ 2 → starts_forbidden (drop i u) ≡ true
      third_low h = forbidden_test room ∙ rw (eq-eqb _ 0 first, eq-eqb _ 0 second, le-leb _ 2 h)

      pub third_high : 3 < get_or u (i + 2) 0 → starts_forbidden (drop i u) ≡ false
      third_high h =
          forbidden_test room
          ∙ rw (eq-eqb _ 0 first, eq-eqb _ 0 second, lt-leb (get_or u (i + 2) 0) 2 (omega arith), ne_eqb (get_or u (i + 2) 0) 3 (λ e. omega arith))

      pub third_three : get_or u (i + 2) 0 ≡ 3 → starts_forbidden (drop i u) ≡ above_three (drop (i + 3) u)
      third_three e =
          forbidden_test room
          ∙ rw (eq-eqb _ 0 first, eq-eqb _ 0 second, lt-leb (get_or u (i + 2) 0) 2 (omega arith), eq-eqb _ 3 e)

  pub forbidden_at : starts_forbidden (drop i u) ≡ true → ForbiddenAt u i
  forbidden_at e =
      elim (dec_le (i + 3) (length u)) [
        | yes k ↦ (
            let room : i + 2 < length u = omega arith in
            let p = both_true _ _ (sym (forbidden_test room) ∙ e) in
            let q = both_true _ _ p.0 in
            third room (eqb-true _ 0 q.0) (eqb-true _ 0 q.1))
        | no k ↦ (let f = forbidden_short (drop i u) (omega (arith, length-drop i u)) in let z : ◌≡◌ {A = ℕ} 0 1 = cc in absurd (omega arith))
      ]
    where
      third : i + 2 < length u → get_or u i 0 ≡ 0 → get_or u (i + 1) 0 ≡ 0 → ForbiddenAt u i
      third room first second =
          elim (dec_le (get_or u (i + 2) 0) 2) [
            | yes k ↦ record { zeros = record { inside = room; first = first; second = second; third = omega arith }; why = inl k }
            | no k ↦ elim (dec_le (get_or u (i + 2) 0) 3) [
              | yes l ↦ record {
                zeros = record { inside = room; first = first; second = second; third = l };
                why = inr (above_at u (i + 3) (sym (third_three room first second (omega arith)) ∙ e));
              }
              | no l ↦ (let f = third_high room first second (omega arith) in let z : ◌≡◌ {A = ℕ} 0 1 = cc in absurd (omega arith))
            ]
          ]

  pub at_forbidden : ForbiddenAt u i → starts_forbidden (drop i u) ≡ true
  at_forbidden f =
      let z = f.zeros in
      elim (dec_le (get_or u (i + 2) 0) 2) [
        | yes k ↦ third_low z.inside z.first z.second k
        | no k ↦ (
            let a : AboveAt u (i + 3) = ⊎_elim (λ l. absurd (omega arith)) (λ r. r) f.why in
            third_three z.inside z.first z.second (omega (arith, z.third)) ∙ at_above u (i + 3) a)
      ]

forbidden_zeros : (s : List ℕ) (i : ℕ) → starts_forbidden (drop i s) ≡ true → ZerosAt 3 s i
forbidden_zeros s i e = (forbidden_at s i e).zeros

-- ### the steps of a search

module _ (u : List ℕ) (i : ℕ) where
  module _ (room : i + 2 < length u) where
    pub forbidden_past : (get_or u (i + 2) 0 ≡ 0 → ⊥) → starts_forbidden (drop i u) ≡ false
        → bytes_before starts_forbidden (drop i u) ≡ 3 + bytes_before starts_forbidden (drop (i + 3) u)
    forbidden_past = before_past starts_forbidden 3 forbidden_zeros u i room

    pub forbidden_jump : 3 < get_or u (i + 2) 0 → bytes_before starts_forbidden (drop i u) ≡ 3 + bytes_before starts_forbidden (drop (i + 3) u)
    forbidden_jump = before_jump starts_forbidden 3 forbidden_zeros u i room

  pub forbidden_end : i ≤ length u → length u - i < 3 → i + bytes_before starts_forbidden (drop i u) ≡ length u
  forbidden_end = before_end starts_forbidden 3 forbidden_zeros u i
