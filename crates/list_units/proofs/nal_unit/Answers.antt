-- `nal_unit` is the part of the list where number k of the units of a list lies.
use mathlib.Core.Path.{subst}
use Rattle.boxes.specs.Parts.{PartOf}
use Rattle.boxes.proofs.Places.{place_found_lem}
use Rattle.unit_list.specs.Answers.{list_units}
use Rattle.list_units.proofs.nal_unit.Goals as goal

pub returns : goal.returns
returns c =
    let a = c.args in
    subst (PartOf c.part_at.result a.list) (place_found_lem c.nal_unit_at-unit.result (list_units a.list.now) a.k c.nal_unit_at-unit.ensures.0) c.part_at.ensures
