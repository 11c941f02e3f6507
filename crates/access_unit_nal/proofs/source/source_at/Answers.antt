-- `source::source_at` returns where unit k of the access unit lies, by its number among the kept units or the list's.
use Prim.Native.Nat.{ℕ}
use mathlib.Core.Path.{refl, sym, ap, ◌∙◌, subst}
use Rattle.std.specs.Prelude.{Option, Ok, Some}
use Rattle.parse.specs.Answers.{answer_of}
use Rattle.parse.proofs.PassedOn.{passed_on}
use Rattle.boxes.specs.Places.{nth_found, PlaceFits}
use Rattle.unit_list.specs.Answers.{list_units}
use Rattle.access_unit.specs.declared.StartCodes.TheVariants.{Four}
use Rattle.access_unit_sizes.proofs.Gathering.{Known, known}
use Rattle.access_unit_nal.specs.inner.Kept.{Numbered}
use Rattle.access_unit_nal.specs.declared.source.UnitNumber.{UnitNumber}
use Rattle.access_unit_nal.proofs.Sources.{has_kept, listed_answer, listed_none, listed_refused, at_past, KeptAt, kept_number}
use Rattle.access_unit_nal.proofs.source.source_at.Goals as goal
use Rattle.access_unit_nal.proofs.source.source_at.Goals.{In_ok-sizes}

-- what was measured
known_at : (c : In_ok-sizes) → Known Four c.args.length_size c.args.target c.args.list.now c.args.item.now c.in_ok-sizes.sizes
known_at c = known _ _ _ _ _ _ (ap answer_of (sym c.in_ok-sizes.was) ∙ c.measure.ensures)

-- which unit it is, by what was measured
abbrev numbered : In_ok-sizes → Option UnitNumber → Type 0
numbered c = Numbered c.in_ok-sizes.sizes c.args.k

pub kept_unit-unit-requires : goal.kept_unit-unit-requires
kept_unit-unit-requires c =
    let o = (goal.at.kept_unit-unit-requires c).In_ok-sizes in
    let k = known_at o in
    let n = kept_number _ _ _ _ _ _ k _ c.from.ensures _
    (subst (numbered o) (c.in-Some-Kept.is ∙ ap Some c.in-Some-Kept.field-0-is) c.number_of.ensures) in
    has_kept _ _ _ _ c.args.k _ k _ c.from.ensures _ n.within

pub returns-in-Some-Kept : goal.returns-in-Some-Kept
returns-in-Some-Kept c =
    let o = (goal.at.returns-in-Some-Kept c).In_ok-sizes in
    let k = known_at o in
    let n = kept_number _ _ _ _ _ _ k _ c.from.ensures _
    (subst (numbered o) (c.in-Some-Kept.is ∙ ap Some c.in-Some-Kept.field-0-is) c.number_of.ensures) in
    (n.is _ c.kept_unit-unit.ensures.0, c.kept_unit-unit.ensures.1)

pub returns-in_err-unit-in-Some-Listed : goal.returns-in_err-unit-in-Some-Listed
returns-in_err-unit-in-Some-Listed c =
    let o = (goal.at.returns-in_err-unit-in-Some-Listed c).In_ok-sizes in
    let k = known_at o in
    let a = c.args in
    let h = subst (numbered o) (c.in-Some-Listed.is ∙ ap Some c.in-Some-Listed.field-0-is) c.number_of.ensures in
    absurd (listed_refused a.length_size a.target a.list.now a.item.now a.k _ k a.length_size refl h.0 _
    (c.nal_unit_at.ensures.0 ∙ ap (λ (j : ℕ). nth_found (list_units a.list.now) j) h.1) _ c.in_err-unit-in-Some-Listed.was)

pub returns-in_default : goal.returns-in_default
returns-in_default c =
    let o = (goal.at.returns-in_default c).In_ok-sizes in
    let k = known_at o in
    let a = c.args in
    let h = subst (numbered o) (c.in-Some-Listed.is ∙ ap Some c.in-Some-Listed.field-0-is) c.number_of.ensures in
    absurd (listed_none a.length_size a.target a.list.now a.item.now a.k _ k a.length_size refl h.0 (rw h.1 at h.2) _
    (c.nal_unit_at.ensures.0 ∙ ap (λ (j : ℕ). nth_found (list_units a.list.now) j) h.1) (c.in_ok-unit-in-Some-Listed.was ∙ ap Ok c.in_default.is))

pub returns-in-Some : goal.returns-in-Some
returns-in-Some c =
    let o = (goal.at.returns-in-Some c).In_ok-sizes in
    let k = known_at o in
    let a = c.args in
    let h = subst (numbered o) (c.in-Some-Listed.is ∙ ap Some c.in-Some-Listed.field-0-is) c.number_of.ensures in (
      listed_answer a.length_size a.target a.list.now a.item.now a.k _ k a.length_size refl h.0 (rw h.1 at h.2) _
          (c.nal_unit_at.ensures.0 ∙ ap (λ (j : ℕ). nth_found (list_units a.list.now) j) h.1) _ (c.in_ok-unit-in-Some-Listed.was ∙ ap Ok c.in-Some.is),
      subst (λ r. PlaceFits a.list.now r) (c.in_ok-unit-in-Some-Listed.was ∙ ap Ok c.in-Some.is) c.nal_unit_at.ensures.1,
    )

pub returns-in-None : goal.returns-in-None
returns-in-None c =
    let o = (goal.at.returns-in-None c).In_ok-sizes in
    let k = known_at o in
    let a = c.args in
    let h = subst (numbered o) c.in-None.is c.number_of.ensures in (
      at_past a.length_size a.target a.list.now a.item.now a.k _ k a.length_size refl h.0 h.1 h.2,
      tt,
    )
