-- `find::find_from` counts the wanted units that are left and finds number k. The loop's invariant: what is passed and what is left are all.
use mathlib.Core.Path.{refl, ap, ◌∙◌}
use Rattle.std.specs.Prelude.{Ok}
use Rattle.unit_list.proofs.Turns.{walk_found, walk_typed_end}
use Rattle.list_units.proofs.Seen.{walked_start, walked_turn, walked_end}
use Rattle.list_units.proofs.find.find_from.Goals as goal

pub loop-unit-init : goal.loop-unit-init
loop-unit-init c = (refl, walked_start _ _ _ _ c.args.walk.fits)

pub loop-unit-preserved : goal.loop-unit-preserved
loop-unit-preserved c =
    let i = c.loop-unit.invariant in
    let s = c.next_unit.ensures in
    let t = walk_found c.args.walk.list c.loop-unit.walk c.next_unit.new.self i.0 _ s.steps _ (c.in_ok-unit.was ∙ ap Ok c.in-Some.is) in
    (s.same ∙ i.0, rw c.see-seen.ensures ((walked_turn _ _ _ _ _ _ i.1 _ _ t).again))

pub returns : goal.returns
returns c =
    let i = c.loop-unit.invariant in
    walked_end _ _ _ _ _ _ i.1 (walk_typed_end c.args.walk.list c.loop-unit.walk c.next_unit.new.self i.0 _ c.next_unit.ensures.steps (c.in_ok-unit.was ∙ ap Ok c.in_default.is))
