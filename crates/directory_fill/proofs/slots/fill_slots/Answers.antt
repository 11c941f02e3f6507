-- `slots::fill_slots`: one entry more.
use mathlib.Core.Path.{ap, ◌∙◌}
use native.Mathlib.Omega.{arith}
use Rattle.std.specs.Prelude.{Ok}
use Rattle.unit_list.proofs.Turns.{walk_found}
use Rattle.directory_fill.proofs.Filling.{filling_turn}
use Rattle.directory_fill.proofs.slots.fill_slots.Goals as goal

pub loop-slot-preserved : goal.loop-slot-preserved
loop-slot-preserved c =
    let i = c.loop-slot.invariant in
    let n = c.next_unit.ensures in
    let t = walk_found c.args.walk.list c.loop-slot.walk c.next_unit.new.self i.0 _ n.steps _ (c.in-Ok-Some.is ∙ ap Ok c.in-Ok-Some.field-0-is) in
    (n.same ∙ i.0, filling_turn _ _ _ c.requires _ _ _ i.1 (omega arith) _ _ t)
