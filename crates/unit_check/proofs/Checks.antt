-- The unit check in plain terms, both ways.
use Prim.Native.Nat.{ℕ, suc, ◌+◌, ◌-◌, ◌≤◌, ◌<◌}
use mathlib.Core.Path.{◌≡◌, refl, sym, ap, ◌∙◌}
use mathlib.Core.Bool.{true, false}
use mathlib.Core.List.{List, [], ◌∷◌}
use mathlib.Core.Logic.{⊎_elim, inl, inr}
use native.Mathlib.Omega.{arith}
use lib.Dec.{eqb}
use lib.ListN.{length, get_or}
use borrow.Author.Tests.{ltb-true, lt-ltb, le-ltb, eqb-true, eqb-false, eq-eqb, ne_eqb, not-true}
use Rattle.std.proofs.lemmas.Bool.{false_from_ne_true}
use Rattle.parse.specs.Outcome.{accept}
use Rattle.parse.proofs.General.{both_true}
use Rattle.parse.proofs.Lent.{lent_within}
use Rattle.start_code.specs.StartCode.{bytes_before}
use Rattle.start_code.specs.Splittable.{Lacks, Splittable}
use Rattle.start_code.proofs.FirstPlaces.{before_le, before_first, before_none}
use Rattle.start_code.proofs.Splittable.{last_byte}
use Rattle.unit_check.specs.UnitCheck.{ends_in_zero, starts_forbidden, unit_checked}
use Rattle.unit_check.specs.PlainCheck.{Passes, CheckSays}
use Rattle.unit_check.proofs.ForbiddenBytes.{ForbiddenAt, forbidden_at, at_forbidden}

-- ### the last byte

-- it decides the end
pub ends_last : (u : List ℕ) → 0 < length u → ends_in_zero u ≡ eqb (get_or u (length u - 1) 0) 0
unfolding ends_in_zero
ends_last [] h = absurd (omega arith)
ends_last (x ∷ []) h = refl
ends_last (x ∷ y ∷ r) h =
    let e : suc (length (y ∷ r) - 1) ≡ length (x ∷ y ∷ r) - 1 = omega arith in
    ends_last (y ∷ r) (omega arith) ∙ ap (λ (j : ℕ). eqb (get_or (x ∷ y ∷ r) j 0) 0) e

pub ends_none : (u : List ℕ) → length u ≡ 0 → ends_in_zero u ≡ false
unfolding ends_in_zero
ends_none [] h = refl
ends_none (x ∷ u) h = absurd (omega arith)

-- ### the answers of the check

module _ (u : List ℕ) where
  pub unchecked_empty : length u ≡ 0 → unit_checked u ≡ false
  unfolding unit_checked
  unchecked_empty h = rw (le-ltb 0 (length u) (omega arith))

  module _ (some : 0 < length u) where
    pub unchecked_zero : ends_in_zero u ≡ true → unit_checked u ≡ false
    unfolding unit_checked
    unchecked_zero e = rw (lt-ltb 0 (length u) some, e)

    module _ (ends : ends_in_zero u ≡ false) where
      pub unchecked_forbidden : bytes_before starts_forbidden u < length u → unit_checked u ≡ false
      unfolding unit_checked
      unchecked_forbidden h = rw (lt-ltb 0 (length u) some, ends, ne_eqb (bytes_before starts_forbidden u) (length u) (λ e. omega arith))

      pub checked_whole : length u ≤ bytes_before starts_forbidden u → unit_checked u ≡ true
      unfolding unit_checked
      checked_whole h =
          let l = before_le starts_forbidden u in
          rw (lt-ltb 0 (length u) some, ends, eq-eqb (bytes_before starts_forbidden u) (length u) (omega arith))

-- ### in plain terms

module _ (u : List ℕ) (e : unit_checked u ≡ true) where
  conditions : (0 < length u) × (ends_in_zero u ≡ false) × (bytes_before starts_forbidden u ≡ length u)
  unfolding unit_checked
  conditions =
      let p = both_true _ _ e in
      let q = both_true _ _ p.1 in
      (ltb-true 0 (length u) p.0, not-true (ends_in_zero u) q.0, eqb-true _ (length u) q.1)

  free : (i : ℕ) → ForbiddenAt u i → ⊥
  free i f =
      let none = before_first starts_forbidden u i (omega (arith, conditions.2, f.zeros.inside)) in
      let here = at_forbidden u i f in
      let z : ◌≡◌ {A = ℕ} 0 1 = cc in
      omega arith

  lacks : (b : ℕ) → b ≤ 2 → Lacks b u
  lacks b h i inside first second third = free i (record {
    zeros = record { inside = inside; first = first; second = second; third = omega arith };
    why = inl (omega arith);
  })

  -- yes says that the unit passes
  pub checked_passes : Passes u
  checked_passes = record {
    splittable = record {
      some = conditions.0;
      clean = record {
        free = lacks 1 (omega arith);
        ends = λ h. eqb-false (get_or u (length u - 1) 0) 0 (sym (ends_last u h) ∙ conditions.1);
      };
    };
    no_zero = lacks 0 (omega arith);
    no_two = lacks 2 (omega arith);
    no_above = λ i inside first second third above. free i (record {
      zeros = record { inside = omega arith; first = first; second = second; third = omega arith };
      why = inr (record { inside = inside; above = above });
    });
  }

module _ (u : List ℕ) (p : Passes u) where
  none : (i : ℕ) → ForbiddenAt u i → ⊥
  none i f =
      let not-zero = is_not 0 p.no_zero in
      let not-one = is_not 1 p.splittable.clean.free in
      let not-two = is_not 2 p.no_two in
      let low = f.zeros.third in
      ⊎_elim (λ k. omega arith)
      (λ a. p.no_above i a.inside f.zeros.first f.zeros.second (omega arith) a.above) f.why
    where
      is_not : (b : ℕ) → Lacks b u → get_or u (i + 2) 0 ≡ b → ⊥
      is_not b l = l i f.zeros.inside f.zeros.first f.zeros.second

  -- such a unit is answered with yes
  pub passes_checked : unit_checked u ≡ true
  passes_checked =
      let s = p.splittable in
      let whole = before_none starts_forbidden u (λ i h. false_from_ne_true _ (λ e. none i (forbidden_at u i e))) in
      checked_whole u s.some (ends_last u s.some ∙ ne_eqb (get_or u (length u - 1) 0) 0 (last_byte u s)) (omega arith)

pub check_says : CheckSays
check_says u h = record {
  yes = λ e. checked_passes u (let a = lent_within u (accept (unit_checked u)) h in cc);
  passes = λ p. lent_within u _ h ∙ ap accept (passes_checked u p);
  no = λ n. lent_within u _ h ∙ ap accept (false_from_ne_true (unit_checked u) (λ e. n (checked_passes u e)));
}

-- a unit that passes can be split off a stream
pub checked_splittable : (u : List ℕ) → unit_checked u ≡ true → Splittable u
checked_splittable u e = (checked_passes u e).splittable
