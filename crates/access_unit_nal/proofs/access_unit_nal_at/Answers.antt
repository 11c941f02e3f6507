-- `access_unit_nal_at` returns where unit k of the access unit lies.
use mathlib.Core.Path.{ap, ◌∙◌}
use mathlib.Core.List.{List}
use Rattle.parse.specs.Outcome.{Outcome}
use Rattle.boxes.specs.Places.{nth_found}
use Rattle.access_unit.specs.declared.Source.{Source}
use Rattle.access_unit_sizes.proofs.Answering.{access_unit_is}
use Rattle.access_unit_nal.proofs.access_unit_nal_at.Goals as goal

pub returns : goal.returns
returns c =
    let a = c.args in
    let e = access_unit_is a.head a.list.now a.item.now a.tols _ c.target_of-target.ensures in
    (c.source_at.ensures.0 ∙ ap (λ (o : Outcome (List Source)). nth_found o a.k) e, c.source_at.ensures.1)
