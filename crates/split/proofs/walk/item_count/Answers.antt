-- `walk::item_count` counts the units of an item. The loop's invariant: those passed and those left are all.
use mathlib.Core.Path.{ap, ◌∙◌}
use native.Mathlib.Omega.{arith}
use Rattle.std.specs.Prelude.{Ok}
use Rattle.parse.proofs.PassedOn.{passed_on}
use Rattle.split.specs.inner.Walk.{item_units_from}
use Rattle.split.proofs.Walks.{count_on, count_end, count_refused}
use Rattle.split.proofs.Items.{found_unit_lem, found_end, found_refusal}
use Rattle.split.proofs.walk.item_count.Goals as goal

pub loop-step-smaller : goal.loop-step-smaller
loop-step-smaller c =
    let f = found_unit_lem _ _ _ _ c.item_step.ensures _ (c.in_ok-step.was ∙ ap Ok c.in-Some.is) in
    omega arith

pub loop-step-preserved : goal.loop-step-preserved
loop-step-preserved c =
    let f = found_unit_lem _ _ _ _ c.item_step.ensures _ (c.in_ok-step.was ∙ ap Ok c.in-Some.is) in (
      omega arith,
      omega arith,
      count_on _ _ _ c.loop-step.invariant.2 _ (item_units_from _ _ _) f.rest,
    )

pub returns-in_err-step : goal.returns-in_err-step
returns-in_err-step c =
    rw (passed_on c.from_residual.result _ c.from_residual.ensures.1)
    (count_refused _ _ _ c.loop-step.invariant.2 _ (found_refusal _ _ _ _ c.item_step.ensures _ c.in_err-step.was))

pub returns : goal.returns
returns c =
    count_end _ _ _ c.loop-step.invariant.2
    (found_end _ _ _ _ c.item_step.ensures (c.in_ok-step.was ∙ ap Ok c.in_default.is))
