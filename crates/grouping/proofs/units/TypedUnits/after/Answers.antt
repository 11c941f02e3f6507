-- `TypedUnits::after` returns the units after the cursor if they can be counted.
use mathlib.Core.Path.{refl, ◌∙◌, subst}
use Rattle.unit_list.specs.inner.Walk.{typed_units_from}
use Rattle.list_units.specs.inner.Find.{Finds, wanted_of}
use Rattle.list_units.specs.declared.Wanted.TheVariants.{Every}
use Rattle.list_units.proofs.WantedUnits.{wanted_every}
use Rattle.grouping.proofs.Opening.{units_counted}
use Rattle.grouping.proofs.units.TypedUnits.after.Goals as goal

pub returns : goal.returns
returns c =
    let a = c.args in
    let o = typed_units_from a.list.now a.cursor in
    let f = subst (Finds a.list.now (wanted_of Every o) 0) c.in_ok-find_from.was c.find_from.ensures in
    (units_counted a.list.now a.cursor f.0 (f.1 ∙ wanted_every o), refl)
