-- `list_units::units_sum` measures the units that are left of a walk. Invariant: those passed and those left are the whole.
use mathlib.Core.Path.{refl, ap, ◌∙◌}
use Rattle.std.specs.Prelude.{Ok}
use Rattle.unit_list.proofs.Turns.{walk_found, walk_end}
use Rattle.compact_write.proofs.ListUnits.{summing_start, summing_again, summing_end}
use Rattle.compact_write.proofs.list_units.units_sum.Goals as goal

pub loop-unit-init : goal.loop-unit-init
loop-unit-init c = (refl, summing_start _ _ c.args.walk.fits)

pub loop-unit-preserved : goal.loop-unit-preserved
loop-unit-preserved c =
    let i = c.loop-unit.invariant in
    let n = c.next_unit.ensures in
    let t = walk_found c.args.walk.list c.loop-unit.walk c.next_unit.new.self i.0 _ n.steps _ (c.in_ok-unit.was ∙ ap Ok c.in-Some.is) in
    (n.same ∙ i.0, rw c.add-sum.ensures (summing_again _ _ _ _ i.1 _ _ t))

pub returns : goal.returns
returns c =
    let i = c.loop-unit.invariant in
    summing_end _ _ _ _ i.1
    (walk_end c.args.walk.list c.loop-unit.walk c.next_unit.new.self i.0 _ c.next_unit.ensures.steps (c.in_ok-unit.was ∙ ap Ok c.in_default.is))
