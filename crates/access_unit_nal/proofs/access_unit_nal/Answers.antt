-- `access_unit_nal` returns the part of the list or of the item where unit k of the access unit lies.
use mathlib.Core.Path.{ap, ◌∙◌}
use Rattle.std.specs.Prelude.{Some}
use Rattle.parse.proofs.PassedOn.{step_some, step_none}
use Rattle.access_unit.specs.AccessUnit.{access_unit}
use Rattle.access_unit_nal.proofs.Parts.{part_found, part_missing}
use Rattle.access_unit_nal.proofs.access_unit_nal.Goals as goal

pub returns-in_default : goal.returns-in_default
returns-in_default c =
    let a = c.args in
    part_missing _ a.list a.item (access_unit a.head a.list.now a.item.now a.tols) a.k c.access_unit_nal_at.result
    c.access_unit_nal_at.ensures.0 (step_none _ _ c.unwrap_or.ensures c.in_default.is) c.part_at.ensures

pub returns-in-OfList : goal.returns-in-OfList
returns-in-OfList c =
    let a = c.args in
    part_found c.part.result a.list a.item (access_unit a.head a.list.now a.item.now a.tols) a.k c.access_unit_nal_at.result
    c.access_unit_nal_at.ensures.0 _ (step_some _ _ _ c.unwrap_or.ensures (c.in-Some.is ∙ ap Some c.in-OfList.is)) c.part.ensures

pub returns-in-OfItem : goal.returns-in-OfItem
returns-in-OfItem c =
    let a = c.args in
    part_found c.part-in-OfItem.result a.list a.item (access_unit a.head a.list.now a.item.now a.tols) a.k c.access_unit_nal_at.result
    c.access_unit_nal_at.ensures.0 _ (step_some _ _ _ c.unwrap_or.ensures (c.in-Some.is ∙ ap Some c.in-OfItem.is)) c.part-in-OfItem.ensures
