-- `TypedUnits::start` returns the units of the list if all of them read.
use mathlib.Core.Path.{ap, ◌∙◌}
use Rattle.unit_list.proofs.Turns.{start_units}
use Rattle.grouping.specs.inner.Units.{held_units}
use Rattle.grouping.proofs.units.TypedUnits.start.Goals as goal

pub returns : goal.returns
returns c =
    let s = c.args.list.now in
    (c.after.ensures.0 ∙ ap (held_units s) (start_units s c.start.result c.start.ensures _ c.in_ok-first.was), c.after.ensures.1)
