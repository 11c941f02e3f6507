-- `entries::add_units`: one turn, by what the step over the list said.
use mathlib.Core.Path.{ap, ◌∙◌}
use native.Mathlib.Omega.{arith}
use Rattle.std.specs.Prelude.{Ok}
use Rattle.unit_list.proofs.Turns.{walk_found}
use Rattle.directory_fill.proofs.Adding.{AddTurn, adding_turn, adding_end}
use Rattle.directory_fill.proofs.entries.add_units.Goals as goal
use Rattle.directory_fill.proofs.entries.add_units.Goals.{In-Ok-Some}

turn : (c : In-Ok-Some) → let w = c.args.walk in
    let l = c.loop-t in
    AddTurn w.list.now w.cursor c.args.totals.now l.walk.cursor l.totals l.invariant.1 c.in-Ok-Some.field-0-0 c.next_unit.new.self.cursor
    (walk_found w.list l.walk c.next_unit.new.self l.invariant.0 c.next_unit.result c.next_unit.ensures.steps c.in-Ok-Some.field-0-0
    (c.in-Ok-Some.is ∙ ap Ok c.in-Ok-Some.field-0-is))
turn c = adding_turn _ _ _ _ _ _ _ _ _

pub bounds-totals-t : goal.bounds-totals-t
bounds-totals-t c = omega (arith, (turn (goal.at.bounds-totals-t c).In-Ok-Some).small)

pub bounds-totals-t-in-Ok-Some : goal.bounds-totals-t-in-Ok-Some
bounds-totals-t-in-Ok-Some c = omega (arith, (turn (goal.at.bounds-totals-t-in-Ok-Some c).In-Ok-Some).small)

pub loop-t-preserved : goal.loop-t-preserved
loop-t-preserved c = (c.next_unit.ensures.same ∙ c.loop-t.invariant.0, rw c.from-t.ensures ((turn (goal.at.loop-t-preserved c).In-Ok-Some).again))

pub returns-in_default : goal.returns-in_default
returns-in_default c = let i = c.loop-t.invariant in adding_end _ _ _ _ _ i.1 (grind arith)

pub offset_bounds-totals-t : goal.offset_bounds-totals-t
offset_bounds-totals-t c = record { fits = omega (arith, (turn (goal.at.offset_bounds-totals-t c).In-Ok-Some).small) }
