-- `TypedUnits::first_having` finds the first unit of a type. Invariant: all units of that type are still to come.
use Prim.Native.Nat.{ℕ}
use mathlib.Core.Path.{◌≡◌, sym, ap, ◌∙◌}
use mathlib.Core.List.{List}
use lib.Dec.{eqb}
use borrow.Author.Tests.{eqb-true, eqb-false}
use Rattle.std.specs.Prelude.{Some}
use Rattle.boxes.specs.Parts.{held}
use Rattle.nal.proofs.UnitKinds.{record_of_lem}
use Rattle.grouping.specs.Grouping.{having_type, first_element}
use Rattle.grouping.proofs.OfType.{having_none, having_same, having_other}
use Rattle.grouping.proofs.units.TypedUnits.first_having.Goals as goal

pub returns : goal.returns
returns c =
    let t = c.args.t in
    (sym (ap first_element (ap (having_type t) c.in-None.ensures.steps ∙ having_none t)) ∙ ap first_element c.loop-unit.invariant.1, tt)

pub returns-then-is_record_of : goal.returns-then-is_record_of
returns-then-is_record_of c =
    let tested : c.is_record_of.result ≡ eqb c.in-Some.found c.args.t =
    c.is_record_of.ensures ∙ record_of_lem _ _ c.requires in
    let u = c.in-Some.ensures.steps in
    let h = having_same c.args.t _ _ _ _ _ u.turn (sym u.type_is ∙ eqb-true _ _ (sym (tested) ∙ c.if-is_record_of.true)) in
    let i = c.loop-unit.invariant in (
      ap Some (c.part.ensures.holds ∙ ap (λ (s : List ℕ). held s c.in-Some.unit) (sym i.0)) ∙ sym (ap first_element h) ∙ ap first_element i.1,
      (c.in-Some.unit, c.part.ensures, rw i.0 at u.inside),
    )

pub loop-unit-preserved : goal.loop-unit-preserved
loop-unit-preserved c =
    let tested : c.is_record_of.result ≡ eqb c.in-Some.found c.args.t =
    c.is_record_of.ensures ∙ record_of_lem _ _ c.requires in
    let u = c.in-Some.ensures.steps in
    let h = having_other c.args.t _ _ _ _ _ u.turn (λ e. eqb-false _ _ (sym (tested) ∙ c.if-is_record_of.false) (u.type_is ∙ e)) in
    (u.same ∙ c.loop-unit.invariant.0, sym h ∙ c.loop-unit.invariant.1)
