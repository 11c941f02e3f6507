-- `nal_unit_of_type_at` says where number k of the units in arrays of a type lies.
use mathlib.Core.Path.{ap, ◌∙◌}
use mathlib.Core.List.{List}
use Rattle.parse.specs.Outcome.{Outcome}
use Rattle.boxes.specs.Places.{nth_found}
use Rattle.boxes.specs.declared.Span.{Span}
use Rattle.list_units.specs.inner.Find.{wanted_list}
use Rattle.list_units.specs.declared.Wanted.TheVariants.{OfType}
use Rattle.list_units.proofs.Seen.{found_unit}
use Rattle.list_units.proofs.WantedUnits.{list_type}
use Rattle.list_units.proofs.nal_unit_of_type_at.Goals as goal

pub returns : goal.returns
returns c =
    let a = c.args in
    let f = found_unit a.list.now (wanted_list (OfType a.t) a.list.now) a.k c.in_ok-seen.seen c.find.result c.find.ensures c.in_ok-seen.was in
    (f.0 ∙ ap (λ (o : Outcome (List Span)). nth_found o a.k) (list_type a.t a.list.now), f.1)
