-- `nal_count` counts the units of a list.
use mathlib.Core.Path.{ap, ◌∙◌}
use Rattle.boxes.specs.Walk.{count_found}
use Rattle.list_units.specs.inner.Find.{wanted_list}
use Rattle.list_units.specs.declared.Wanted.TheVariants.{Every}
use Rattle.list_units.proofs.Seen.{found_count}
use Rattle.list_units.proofs.WantedUnits.{list_every}
use Rattle.list_units.proofs.nal_count.Goals as goal

pub returns : goal.returns
returns c =
    let a = c.args in
    found_count a.list.now (wanted_list Every a.list.now) 0 c.in_ok-seen.seen c.find.result c.find.ensures c.in_ok-seen.was
    ∙ ap count_found (list_every a.list.now)
