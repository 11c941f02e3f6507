-- `walk::step` returns the next unit after the cursor. The loop's invariant: the same units are left after `here` as after `c`.
use mathlib.Core.Path.{ap, ◌∙◌}
use Rattle.std.specs.Prelude.{Ok}
use Rattle.parse.proofs.PassedOn.{passed_on}
use Rattle.unit_list.proofs.Left.{turn_entered, turn_end, turn_malformed, turn_unit}
use Rattle.unit_list.proofs.walk.step.Goals as goal

pub returns-in_err-first : goal.returns-in_err-first
returns-in_err-first c =
    rw (passed_on c.from_residual.result _ c.from_residual.ensures.1) (
      turn_malformed c.args.list.now c.args.c c.loop-here.here c.loop-here.invariant c.loop-here-test.true
          c.array_step.result c.array_step.ensures _ c.in_err-first.was,
      tt,
    )

pub returns-in_default : goal.returns-in_default
returns-in_default c = (
  turn_end c.args.list.now c.args.c c.loop-here.here c.loop-here.invariant c.loop-here-test.true
      c.array_step.result c.array_step.ensures (c.in_ok-first.was ∙ ap Ok c.in_default.is),
  tt,
)

pub loop-here-preserved : goal.loop-here-preserved
loop-here-preserved c =
    ((turn_entered c.args.list.now c.args.c c.loop-here.here c.loop-here.invariant c.loop-here-test.true
    c.array_step.result c.array_step.ensures c.in-Some.field-0-0 c.in-Some.first (c.in_ok-first.was ∙ ap Ok c.in-Some.is))).1

pub returns : goal.returns
returns c =
    turn_unit c.args.list.now c.args.c c.loop-here.here c.loop-here.invariant c.loop-here-test.false
    c.unit_step.result c.unit_step.ensures
