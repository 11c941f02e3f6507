-- Laws of what is left after a cursor: from the start of a list to its end, step by step.
use Prim.Native.Nat.{ℕ, ◌-◌, ◌^◌, ◌≤◌, ◌<◌}
use mathlib.Core.Path.{◌≡◌, refl, sym, ap, ◌∙◌, subst}
use mathlib.Core.List.{List, [], ◌∷◌, ◌++◌}
use mathlib.Core.Logic.{◌⊎◌, ⊎_elim, inl, inr}
use native.Mathlib.Omega.{arith}
use native.Mathlib.Decide.{ℕ_discrete}
use lib.ListN.{length, get_or, take, length-take}
use borrow.Author.Tests.{le-leb, lt-leb, ne_eqb}
use Rattle.std.specs.Prelude.{Option, Some, None, Result, Ok, Err}
use Rattle.error.specs.Refusals.{number_of}
use Rattle.error.specs.declared.Refusal.{Refusal}
use Rattle.parse.specs.Outcome.{Outcome, accept, refuse, and_then}
use Rattle.parse.specs.inner.Walk.{more}
use Rattle.boxes.specs.Bytes.{chunk}
use Rattle.boxes.specs.declared.Span.{Span}
use Rattle.boxes.proofs.Fields.{uint_there, uint_short}
use Rattle.boxes.proofs.Numbers.{be_one}
use Rattle.unit_list.specs.UnitList.{Array, length_width, unit_list, array_with, decode}
use Rattle.unit_list.specs.inner.Walk.{typed, typed_units, typed_list, typed_units_from, array_units_from, arrays_from, front}
use Rattle.unit_list.specs.inner.Walk.{arrays_stepped, units_stepped, stepped, TwoOrFour, Fits, Entered, ArrayStepFits, UnitStepFits, StepFits}
use Rattle.unit_list.specs.declared.ListCursor.{ListCursor}
use Rattle.unit_list.proofs.Arrays.{two_to_four, run_nil}

-- a version with lengths is 01 or 02, and they have two or four bytes
pub version_known : (v : ℕ) → (length_width v ≡ 0 → ⊥) → (v ≡ 1) ⊎ (v ≡ 2)
version_known v h =
    elim (ℕ_discrete v 1) [
      | yes e ↦ inl e
      | no f ↦
          elim (ℕ_discrete v 2) [
            | yes e ↦ inr e
            | no g ↦ absurd (h (rw (ne_eqb v 1 f, ne_eqb v 2 g)))
          ]
    ]

pub width_known : (v : ℕ) → (length_width v ≡ 0 → ⊥) → TwoOrFour (length_width v)
width_known v h = ⊎_elim (λ e. inr (rw e refl)) (λ e. inl (rw e refl)) (version_known v h)

pub width_small : (v : ℕ) → (length_width v ≡ 0 → ⊥) → (2 ≤ length_width v) × (length_width v ≤ 4)
width_small v h = two_to_four (length_width v) (width_known v h)

-- the start: too long, another version or none, and after the version
pub decode_too_long : (s : List ℕ) → 2 ^ 30 < length s → decode s ≡ refuse 23
unfolding decode
decode_too_long s h = rw (lt-leb (length s) (2 ^ 30) h)

pub list_too_long : (s : List ℕ) → 2 ^ 30 < length s → typed_list s ≡ refuse 23
list_too_long s h = rw (decode_too_long s h)

pub decode_versionless : (s : List ℕ) → length s ≤ 2 ^ 30 → length_width (get_or s 0 0) ≡ 0 → decode s ≡ refuse 21
unfolding decode unit_list
decode_versionless [] l h = rw (uint_short 1 [] 0 (omega arith))
decode_versionless (b ∷ s) l h =
    rw (le-leb (length (b ∷ s)) (2 ^ 30) l, uint_there 1 (b ∷ s) 0 (omega arith), be_one (b ∷ s) 0, h)

pub list_versionless : (s : List ℕ) → length s ≤ 2 ^ 30 → length_width (get_or s 0 0) ≡ 0 → typed_list s ≡ refuse 21
list_versionless s l h = rw (decode_versionless s l h)

-- a list is its arrays, with lengths of its version
pub decode_arrays : (s : List ℕ) → length s ≤ 2 ^ 30 → (w : ℕ) → length_width (get_or s 0 0) ≡ w → (w ≡ 0 → ⊥) → decode s ≡ arrays_from s (front w)
unfolding decode unit_list
decode_arrays [] l w e h = absurd (h (sym e))
decode_arrays (b ∷ s) l w e h =
    rw (le-leb (length (b ∷ s)) (2 ^ 30) l, uint_there 1 (b ∷ s) 0 (omega arith), be_one (b ∷ s) 0, e, ne_eqb w 0 h)

-- what is left at the end of an array: the arrays after it
pub left_arrays : (s : List ℕ) (c : ListCursor) → c.at ≡ c.end → typed_units_from s c ≡ and_then (arrays_from s c) (λ xs. accept (typed_units xs))
unfolding typed_units_from typed
left_arrays s c e =
    let l = length-take c.end s in
    rw (run_nil (chunk c.width) (take c.end s) c.at 21 (omega arith))

pub left_start : (s : List ℕ) → length s ≤ 2 ^ 30 → (w : ℕ) → length_width (get_or s 0 0) ≡ w → (w ≡ 0 → ⊥) → typed_units_from s (front w) ≡ typed_list s
left_start s l w e h = left_arrays s (front w) refl ∙ rw (decode_arrays s l w e h)

-- one array passed
module _ (s : List ℕ) (c : ListCursor) (e : c.at ≡ c.end) where
  pub left_entered : (b : ℕ) (d : ListCursor) → arrays_stepped s (Ok (Some (b, d))) ≡ arrays_from s c → typed_units_from s d ≡ typed_units_from s c
  unfolding typed_units_from typed_units
  left_entered b d f = go (array_units_from s d) (arrays_from s d) ∙ ap (λ (o : Outcome (List (Array Span))). and_then o (λ xs. accept (typed_units xs))) f
      ∙ sym (left_arrays s c e)
    where
      go : (u : Outcome (List Span)) (o : Outcome (List (Array Span)))
          → and_then u (λ us. and_then o (λ xs. accept (typed d.unit_type us ++ typed_units xs)))
          ≡ and_then (and_then u (λ us. more (array_with b d.unit_type us) o)) (λ xs. accept (typed_units xs))
      go (refuse m) o = refl
      go (accept us) (refuse m) = refl
      go (accept us) (accept xs) = refl

  pub left_end : accept [] ≡ arrays_from s c → accept [] ≡ typed_units_from s c
  unfolding typed_units
  left_end f = sym (left_arrays s c e ∙ rw (← f))

  pub left_malformed : (n : ℕ) → refuse n ≡ arrays_from s c → refuse n ≡ typed_units_from s c
  left_malformed n f = sym (left_arrays s c e ∙ rw (← f))

-- one unit passed, in an array that has units left
module _ (s : List ℕ) (c : ListCursor) where
  left_unit : (a : Span) (d : ListCursor) → (d.end ≡ c.end) × (d.unit_type ≡ c.unit_type) × (d.width ≡ c.width)
      → units_stepped s (Ok (Some (a, d))) ≡ array_units_from s c → stepped s (Ok (Some (a, d))) ≡ typed_units_from s c
  unfolding typed_units_from typed
  left_unit a d same f = rw (← f, ← same.0, ← same.1, ← same.2) (go (array_units_from s d) (arrays_from s d))
    where
      go : (u : Outcome (List Span)) (o : Outcome (List (Array Span)))
          → more (record { unit = a; unit_type = d.unit_type })
          (and_then u (λ us. and_then o (λ xs. accept (typed d.unit_type us ++ typed_units xs))))
          ≡ and_then (more a u) (λ us. and_then o (λ xs. accept (typed d.unit_type us ++ typed_units xs)))
      go (refuse m) o = refl
      go (accept us) (refuse m) = refl
      go (accept us) (accept xs) = refl

  left_unread : (n : ℕ) → refuse n ≡ array_units_from s c → refuse n ≡ typed_units_from s c
  unfolding typed_units_from
  left_unread n f = rw (← f)

-- the turns of a step from c, which has come to `here`: what is left is the same
module _ (s : List ℕ) (c here : ListCursor)
    (inv : Fits s here × (typed_units_from s here ≡ typed_units_from s c) × (c.at ≤ here.at) × (here.width ≡ c.width)) where
  module _ (e : here.at ≡ here.end) (r : Result (Option (ℕ × ListCursor)) Refusal) (f : (arrays_stepped s r ≡ arrays_from s here) × ArrayStepFits s here r) where
    module _ (b : ℕ) (d : ListCursor) (g : r ≡ Ok (Some (b, d))) where
      entered : (arrays_stepped s (Ok (Some (b, d))) ≡ arrays_from s here) × Entered TwoOrFour s here b d
      entered = subst (λ (r : Result (Option (ℕ × ListCursor)) Refusal). (arrays_stepped s r ≡ arrays_from s here) × ArrayStepFits s here r) g f

      pub turn_entered : (length s - d.end < length s - here.end)
          × (Fits s d × (typed_units_from s d ≡ typed_units_from s c) × (c.at ≤ d.at) × (d.width ≡ c.width))
      turn_entered =
          let h = entered.1 in (
            omega (arith, h.first, h.fits.before, h.fits.within),
            (h.fits, left_entered s here e b d entered.0 ∙ inv.1, omega (arith, inv.2, inv.0.before, h.first), h.same ∙ inv.3),
          )

    pub turn_end : r ≡ Ok None → accept [] ≡ typed_units_from s c
    turn_end g = left_end s here e (sym (ap (arrays_stepped s) g) ∙ f.0) ∙ inv.1

    pub turn_malformed : (n : Refusal) → r ≡ Err n → refuse (number_of n) ≡ typed_units_from s c
    turn_malformed n g = left_malformed s here e (number_of n) (sym (ap (arrays_stepped s) g) ∙ f.0) ∙ inv.1

  pub turn_unit : ((here.at ≡ here.end) → ⊥) → (r : Result (Option (Span × ListCursor)) Refusal) → (units_stepped s r ≡ array_units_from s here) × UnitStepFits s here r
      → (stepped s r ≡ typed_units_from s c) × StepFits s c r
  turn_unit h (Ok (Some (a, d))) f = (
    left_unit s here a d (f.1.1, f.1.2, f.1.0.same) f.0 ∙ inv.1,
    record {
      start = omega (arith, f.1.0.start, inv.2, inv.3);
      next = f.1.0.next;
      same = f.1.0.same ∙ inv.3;
      fits = f.1.0.fits;
    },
  )
  turn_unit h (Ok None) f = absurd (h f.1)
  turn_unit h (Err n) f = (left_unread s here (number_of n) f.0 ∙ inv.1, tt)
