-- `sizes::item_sum` sums the kept units of an item. Invariant: the sum is that of the units passed, and those left follow them.
use mathlib.Core.Path.{ap, ◌∙◌}
use native.Mathlib.Omega.{arith}
use Rattle.std.specs.Prelude.{Ok}
use Rattle.parse.proofs.PassedOn.{passed_answer}
use Rattle.split.proofs.Items.{Turn, found_unit_lem, found_end, found_refusal}
use Rattle.access_unit.proofs.KeptUnits.{over_end, over_refused}
use Rattle.access_unit_sizes.proofs.Sums.{summing_start, summing_small, summing_kept}
use Rattle.access_unit_sizes.proofs.Sums.{summing_end, summing_refused, item_sum_none}
use Rattle.access_unit_sizes.proofs.sizes.item_sum.Goals as goal
use Rattle.access_unit_sizes.proofs.sizes.item_sum.Goals.{In-Some}

-- the turn over the unit found
turn : (c : In-Some) → Turn c.args.size c.args.item.now c.loop-step.at c.in-Some.step.unit c.in-Some.step.next
turn c = found_unit_lem _ _ _ _ c.item_step.ensures _ (c.in_ok-step.was ∙ ap Ok c.in-Some.is)

pub loop-step-init : goal.loop-step-init
loop-step-init c =
    (omega arith, summing_start _ _ _ (item_sum_none c.args.item.now))

pub add_kept-sum-requires : goal.add_kept-sum-requires
add_kept-sum-requires c =
    let t = turn (goal.at.add_kept-sum-requires c).In-Some in
    let s = summing_small _ _ _ _ _ c.loop-step.invariant.1 c.in-Some.step.unit.len (omega (arith, t.here, c.requires.lent)) in
    (omega (arith, t.here), c.requires.lent, s)

pub loop-step-smaller : goal.loop-step-smaller
loop-step-smaller c =
    let t = turn (goal.at.loop-step-smaller c).In-Some in omega (arith, t.here)

pub loop-step-preserved : goal.loop-step-preserved
loop-step-preserved c =
    let t = turn (goal.at.loop-step-preserved c).In-Some in
    let a = c.args in
    let s = summing_kept a.size a.target a.item.now _ _ _ _ t c.loop-step.sum c.loop-step.invariant.1 in
    (omega (arith, t.here), rw c.add_kept-sum.ensures s)

pub returns : goal.returns
returns c =
    let a = c.args in
    summing_end _ _ _ _ _ c.loop-step.invariant.1
    (over_end a.size a.target a.item.now _ (found_end _ _ _ _ c.item_step.ensures (c.in_ok-step.was ∙ ap Ok c.in_default.is)))

pub returns-in_err-step : goal.returns-in_err-step
returns-in_err-step c =
    passed_answer c.from_residual.result _ c.from_residual.ensures.1 ∙ summing_refused _ _ _ _ _ c.loop-step.invariant.1 _
    (over_refused c.args.size c.args.target c.args.item.now _ _ (found_refusal _ _ _ _ c.item_step.ensures _ c.in_err-step.was))
