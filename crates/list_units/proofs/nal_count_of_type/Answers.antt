-- `nal_count_of_type` counts the units in arrays of a type.
use mathlib.Core.Path.{ap, ◌∙◌}
use Rattle.boxes.specs.Walk.{count_found}
use Rattle.list_units.specs.inner.Find.{wanted_list}
use Rattle.list_units.specs.declared.Wanted.TheVariants.{OfType}
use Rattle.list_units.proofs.Seen.{found_count}
use Rattle.list_units.proofs.WantedUnits.{list_type}
use Rattle.list_units.proofs.nal_count_of_type.Goals as goal

pub returns : goal.returns
returns c =
    let a = c.args in
    found_count a.list.now (wanted_list (OfType a.t) a.list.now) 0 c.in_ok-seen.seen c.find.result c.find.ensures c.in_ok-seen.was
    ∙ ap count_found (list_type a.t a.list.now)
