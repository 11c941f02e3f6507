-- `expand_units` takes the PTL of the parameter sets, and writes the list of the units.
use Prim.Native.Nat.{ℕ}
use mathlib.Core.Path.{sym, ap, ◌∙◌}
use mathlib.Core.List.{List}
use Rattle.parse.specs.Answers.{answer_of}
use Rattle.parse.specs.Outcome.{Outcome, lent_output}
use Rattle.parse.proofs.PassedOn.{passed_on}
use Rattle.grouping.specs.inner.TypedUnits.{units_of}
use Rattle.full.specs.declared.VvcConfig.{VvcConfig}
use Rattle.expand.specs.declared.Expanded.{Expanded}
use Rattle.expand.specs.inner.ParameterSets.{with_units}
use Rattle.expand.proofs.SetsRead.{sets_read, sets_refused}
use Rattle.expand.proofs.Expansion.{expanded_refused}
use Rattle.expand.proofs.expand_units.Goals as goal

pub returns-in_err-ptl : goal.returns-in_err-ptl
returns-in_err-ptl c =
    let a = c.args in
    rw (passed_on c.from_residual.result _ c.from_residual.ensures.1)
    (expanded_refused _ a.out.now _
    (sets_refused a.config a.picture (units_of a.units) _ (sym c.sets_ptl.ensures ∙ ap answer_of c.in_err-ptl.was)))

pub returns : goal.returns
returns c =
    let a = c.args in
    let us = units_of a.units in
    c.put_expanded.ensures
    ∙ ap (λ (o : Outcome (Expanded × List ℕ)). lent_output o a.out.now)
    (ap (λ (h : VvcConfig). with_units h us) c.expanded_head-head.ensures
    ∙ sym (sets_read a.config a.picture us c.in_ok-ptl.ptl (sym c.sets_ptl.ensures ∙ ap answer_of c.in_ok-ptl.was)))
