-- `walk::item_unit` finds unit k of an item. The loop's invariant: what is left has more than `skip` units, and unit `skip` of it is unit k.
use native.Mathlib.Omega.{arith}
use Rattle.parse.proofs.PassedOn.{step_some, step_none}
use Rattle.split.specs.inner.Walk.{item_units_from}
use Rattle.split.proofs.Walks.{find_here, find_on}
use Rattle.split.proofs.Items.{found_unit_lem, found_none}
use Rattle.split.proofs.walk.item_unit.Goals as goal

pub loop-step-smaller : goal.loop-step-smaller
loop-step-smaller c =
    let f = found_unit_lem _ _ _ _ c.item_step.ensures _ (step_some _ _ _ c.unwrap_or.ensures c.in-Some.is) in
    omega arith

pub loop-step-preserved : goal.loop-step-preserved
loop-step-preserved c =
    let f = found_unit_lem _ _ _ _ c.item_step.ensures _ (step_some _ _ _ c.unwrap_or.ensures c.in-Some.is) in
    let w = find_on c.loop-step.skip _ _ c.loop-step.invariant.1 c.loop-step.invariant.2 _ (item_units_from _ _ _) f.rest c.if-skip-eq0.false in
    (omega arith, w.0, w.1)

pub returns-then-skip-eq0 : goal.returns-then-skip-eq0
returns-then-skip-eq0 c =
    let f = found_unit_lem _ _ _ _ c.item_step.ensures _ (step_some _ _ _ c.unwrap_or.ensures c.in-Some.is) in (
      find_here c.loop-step.skip _ _ c.loop-step.invariant.1 c.loop-step.invariant.2 _ (item_units_from _ _ _) f.rest c.if-skip-eq0.true,
      omega arith,
    )

pub returns : goal.returns
returns c =
    let z = found_none _ _ _ _ c.item_step.ensures (step_none _ _ c.unwrap_or.ensures c.in_default.is) in
    absurd (omega arith)
