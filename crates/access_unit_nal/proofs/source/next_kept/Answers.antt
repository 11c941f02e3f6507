-- `source::next_kept` finds the next kept unit. Invariant: the kept units from `at` on are those from `from` on.
use mathlib.Core.Path.{sym, ap, ◌∙◌}
use native.Mathlib.Omega.{arith}
use Rattle.std.specs.Prelude.{Ok, Some}
use Rattle.parse.proofs.PassedOn.{passed_on}
use Rattle.split.proofs.Items.{found_unit_lem, found_onward}
use Rattle.access_unit.proofs.KeptUnits.{over_kept, over_dropped}
use Rattle.access_unit_nal.proofs.KeptWalk.{onward_earlier, over_ended, over_broken}
use Rattle.access_unit_nal.proofs.source.next_kept.Goals as goal

pub kept_at-requires : goal.kept_at-requires
kept_at-requires c =
    let f = found_unit_lem _ _ _ _ c.item_step.ensures _ (c.in_ok-step.was ∙ ap Ok c.in-Some.is) in (omega (arith, f.here), c.requires.lent)

pub returns-then-kept_at : goal.returns-then-kept_at
returns-then-kept_at c =
    let f = found_unit_lem _ _ _ _ c.item_step.ensures _ (c.in_ok-step.was ∙ ap Ok c.in-Some.is) in
    let a = c.args in (
      sym (over_kept _ _ _ _ _ _ f.rest (sym c.kept_at.ensures ∙ c.if-kept_at.true)) ∙ c.loop-step.invariant.2,
      onward_earlier a.item.now a.from c.loop-step.at c.loop-step.invariant.0 (Ok (Some c.in-Some.step)) f.here,
    )

pub loop-step-smaller : goal.loop-step-smaller
loop-step-smaller c =
    let f = found_unit_lem _ _ _ _ c.item_step.ensures _ (c.in_ok-step.was ∙ ap Ok c.in-Some.is) in omega (arith, f.here)

pub loop-step-preserved : goal.loop-step-preserved
loop-step-preserved c =
    let f = found_unit_lem _ _ _ _ c.item_step.ensures _ (c.in_ok-step.was ∙ ap Ok c.in-Some.is) in (
      omega (arith, f.here, c.loop-step.invariant.0),
      omega (arith, f.here),
      sym (over_dropped _ _ _ _ _ _ f.rest (sym c.kept_at.ensures ∙ c.if-kept_at.false)) ∙ c.loop-step.invariant.2,
    )

pub returns-in_err-step : goal.returns-in_err-step
returns-in_err-step c =
    let a = c.args in
    rw (passed_on c.from_residual.result _ c.from_residual.ensures.1) (
      over_broken a.size a.target a.item.now _ _ c.item_step.ensures _ c.in_err-step.was ∙ c.loop-step.invariant.2,
      tt,
    )

pub returns : goal.returns
returns c =
    let a = c.args in (
      over_ended a.size a.target a.item.now _ _ c.item_step.ensures (c.in_ok-step.was ∙ ap Ok c.in_default.is) ∙ c.loop-step.invariant.2,
      tt,
    )
