-- `to_full` expands the units of a list, or returns the refusal of the list.
use Prim.Native.Nat.{ℕ}
use mathlib.Core.Path.{sym, ap, ◌∙◌}
use mathlib.Core.List.{List}
use Rattle.parse.specs.Outcome.{Outcome, lent_output}
use Rattle.parse.proofs.PassedOn.{passed_on}
use Rattle.grouping.specs.inner.TypedUnits.{started_units}
use Rattle.expand.specs.declared.Expanded.{Expanded}
use Rattle.expand.proofs.Expansion.{expanded_refused, list_expanded, list_refused}
use Rattle.expand.proofs.to_full.Goals as goal

pub returns-in_err-units : goal.returns-in_err-units
returns-in_err-units c =
    let a = c.args in
    let s = a.list.now in
    rw (passed_on c.from_residual.result _ c.from_residual.ensures.1)
    (expanded_refused _ a.out.now _
    (list_refused a.config a.picture s _ (sym (ap started_units c.in_err-units.was) ∙ c.start.ensures.0)))

pub returns : goal.returns
returns c =
    let a = c.args in
    let s = a.list.now in
    c.expand_units.ensures
    ∙ ap (λ (o : Outcome (Expanded × List ℕ)). lent_output o a.out.now)
    (sym (list_expanded a.config a.picture s _ (sym (ap started_units c.in_ok-units.was) ∙ c.start.ensures.0)))
