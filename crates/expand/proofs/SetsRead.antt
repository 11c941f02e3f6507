-- Laws of the parameter sets: expansion by their PTL, and by their refusal.
use Prim.Native.Nat.{ℕ}
use mathlib.Core.Path.{◌≡◌, refl, sym, ap, ◌∙◌}
use mathlib.Core.List.{List}
use Rattle.parse.specs.Outcome.{Outcome, accept, refuse, and_then}
use Rattle.parse.specs.Steps.{or_refuse}
use Rattle.ptl.specs.declared.VvcPtlRecord.{VvcPtlRecord}
use Rattle.sps.specs.Sps.{parse_sps}
use Rattle.grouping.specs.Grouping.{having_type, first_element}
use Rattle.compact.specs.declared.CompactVvcConfig.{CompactVvcConfig}
use Rattle.expand.specs.Expand.{multi_layer_vps, ptl_of_sets, expand_units, expanded_head}
use Rattle.expand.specs.inner.ParameterSets.{first_sps_ptl, sets_ptl, with_units}
use Rattle.expand.specs.declared.Picture.{Picture}

and_then_lem : {A B C : Type 0} (o : Outcome A) (f : A → Outcome B) (g : B → Outcome C) → and_then (and_then o f) g ≡ and_then o (λ a. and_then (f a) g)
and_then_lem (accept a) f g = refl
and_then_lem (refuse n) f g = refl

sets_units : (c : CompactVvcConfig) (pic : Picture) (us : List (List ℕ))
    → expand_units c pic us ≡ and_then (sets_ptl c.multi_layer_flag us) (λ ptl. with_units (expanded_head c pic ptl) us)
unfolding expand_units
sets_units c pic us = go (multi_layer_vps c.multi_layer_flag us)
  where
    go : (o : Outcome (Unit {0}))
        → and_then o (λ _. and_then (or_refuse 17 (first_element (having_type 15 us)))
        (λ unit. and_then (parse_sps unit) (λ sps. and_then (ptl_of_sets sps us) (λ ptl. with_units (expanded_head c pic ptl) us))))
        ≡ and_then (and_then o (λ _. first_sps_ptl us)) (λ ptl. with_units (expanded_head c pic ptl) us)
    go (refuse n) = refl
    go (accept x) = find (or_refuse 17 (first_element (having_type 15 us)))
      where
        find : (o : Outcome (List ℕ))
            → and_then o (λ unit. and_then (parse_sps unit) (λ sps. and_then (ptl_of_sets sps us) (λ ptl. with_units (expanded_head c pic ptl) us)))
            ≡ and_then (and_then o (λ unit. and_then (parse_sps unit) (λ sps. ptl_of_sets sps us))) (λ ptl. with_units (expanded_head c pic ptl) us)
        find (refuse n) = refl
        find (accept unit) = sym (and_then_lem (parse_sps unit) (λ sps. ptl_of_sets sps us) (λ ptl. with_units (expanded_head c pic ptl) us))

module _ (c : CompactVvcConfig) (pic : Picture) (us : List (List ℕ)) where
  pub sets_read : (ptl : VvcPtlRecord) → sets_ptl c.multi_layer_flag us ≡ accept ptl
      → expand_units c pic us ≡ with_units (expanded_head c pic ptl) us
  sets_read ptl e = sets_units c pic us ∙ ap (λ (o : Outcome VvcPtlRecord). and_then o (λ p. with_units (expanded_head c pic p) us)) e

  pub sets_refused : (n : ℕ) → sets_ptl c.multi_layer_flag us ≡ refuse n → expand_units c pic us ≡ refuse n
  sets_refused n e = sets_units c pic us ∙ ap (λ (o : Outcome VvcPtlRecord). and_then o (λ p. with_units (expanded_head c pic p) us)) e
