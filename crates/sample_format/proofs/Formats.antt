-- The sample format of a list by cases: of the head, of the first SPS, and without an SPS.
use Prim.Native.Nat.{ℕ}
use mathlib.Core.Path.{◌≡◌, refl, sym, ap, ◌∙◌}
use mathlib.Core.Bool.{Bool, true, false}
use mathlib.Core.List.{List, [], ◌∷◌}
use Rattle.error.specs.Refusals.{number_of}
use Rattle.error.specs.declared.Refusal.{Refusal}
use Rattle.std.specs.Prelude.{if◌then◌else◌, Option, None, Some, Result, Ok, Err}
use Rattle.parse.specs.Answers.{answer_of}
use Rattle.parse.specs.Outcome.{Outcome, accept, refuse, and_then}
use Rattle.boxes.specs.Parts.{held}
use Rattle.boxes.specs.Places.{nth, nth_found}
use Rattle.boxes.specs.declared.Span.{Span}
use Rattle.unit_list.specs.UnitList.{Array, decode, units_of_type}
use Rattle.full.specs.Answers.{sps_place}
use Rattle.full.specs.declared.VvcConfig.{VvcConfig}
use Rattle.sample_format.specs.Format.{head_format, sps_format_of, first_format, sample_format}
use Rattle.sample_format.specs.declared.SampleFormat.{SampleFormat}

-- the format of the first SPS, by its place
abbrev first_at : List ℕ → Option Span → Outcome SampleFormat
first_at s None = refuse 17
first_at s (Some a) = sps_format_of (held s a)

abbrev by_place : VvcConfig → List ℕ → Outcome (Option Span) → Outcome SampleFormat
by_place h s o = and_then o (λ p. if h.ptl_present_flag then head_format h else first_at s p)

module _ (h : VvcConfig) (s : List ℕ) where
  by_place_lem : by_place h s (sps_place s) ≡ sample_format h s
  unfolding sample_format first_format nth
  by_place_lem = go (decode s)
    where
      first : (us : List Span) → first_at s (nth us 0) ≡ first_format s us
      first [] = refl
      first (a ∷ us) = refl

      go : (o : Outcome (List (Array Span)))
          → by_place h s (nth_found (and_then o (λ xs. accept (units_of_type 15 xs))) 0)
          ≡ and_then o (λ xs. if h.ptl_present_flag then head_format h else first_format s (units_of_type 15 xs))
      go (accept xs) = ap (λ (o : Outcome SampleFormat). if h.ptl_present_flag then head_format h else o) (first (units_of_type 15 xs))
      go (refuse n) = refl

  module _ (r : Result (Option Span) Refusal) (e : answer_of r ≡ sps_place s) where
    placed : (x : Result (Option Span) Refusal) → r ≡ x → by_place h s (answer_of x) ≡ sample_format h s
    placed x f = ap (λ (y : Result (Option Span) Refusal). by_place h s (answer_of y)) (sym f) ∙ ap (by_place h s) e ∙ by_place_lem

    pub list_refused : (n : Refusal) → r ≡ Err n → refuse (number_of n) ≡ sample_format h s
    list_refused n f = placed (Err n) f

    module _ (p : Option Span) (f : r ≡ Ok p) where
      pub list_head_lem : h.ptl_present_flag ≡ true → head_format h ≡ sample_format h s
      list_head_lem b = ap (λ (x : Bool). if x then head_format h else first_at s p) (sym b) ∙ placed (Ok p) f

      list_sps : h.ptl_present_flag ≡ false → first_at s p ≡ sample_format h s
      list_sps b = ap (λ (x : Bool). if x then head_format h else first_at s p) (sym b) ∙ placed (Ok p) f

      module _ (b : h.ptl_present_flag ≡ false) where
        pub list_none : p ≡ None → refuse 17 ≡ sample_format h s
        list_none g = ap (first_at s) (sym g) ∙ list_sps b

        pub list_first : (a : Span) → p ≡ Some a → sps_format_of (held s a) ≡ sample_format h s
        list_first a g = ap (first_at s) (sym g) ∙ list_sps b
