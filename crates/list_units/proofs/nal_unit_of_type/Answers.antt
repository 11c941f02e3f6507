-- `nal_unit_of_type` is the part of the list where number k of the units in arrays of a type lies.
use mathlib.Core.Path.{subst}
use Rattle.boxes.specs.Parts.{PartOf}
use Rattle.boxes.proofs.Places.{place_found_lem}
use Rattle.unit_list.specs.Answers.{list_units_of_type}
use Rattle.list_units.proofs.nal_unit_of_type.Goals as goal

pub returns : goal.returns
returns c =
    let a = c.args in
    subst (PartOf c.part_at.result a.list) (place_found_lem c.nal_unit_of_type_at-unit.result (list_units_of_type a.t a.list.now) a.k c.nal_unit_of_type_at-unit.ensures.0)
    c.part_at.ensures
