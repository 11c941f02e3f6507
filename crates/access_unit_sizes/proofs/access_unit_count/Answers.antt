-- `access_unit_count` counts the units of the access unit.
use mathlib.Core.Path.{sym, ap, ◌∙◌}
use native.Mathlib.Omega.{arith}
use Rattle.parse.specs.Answers.{answer_of}
use Rattle.parse.proofs.PassedOn.{passed_answer}
use Rattle.access_unit.specs.declared.StartCodes.TheVariants.{Four}
use Rattle.access_unit_sizes.proofs.Gathering.{known, unknown, known_small}
use Rattle.access_unit_sizes.proofs.Answering.{count_known, count_unknown}
use Rattle.access_unit_sizes.proofs.access_unit_count.Goals as goal

pub overflow_add-result : goal.overflow_add-result
overflow_add-result c =
    let a = c.args in
    let k = known Four a.head.length_size (c.target_of-target.result) a.list.now a.item.now _
    (ap answer_of (sym c.in_ok-sizes.was) ∙ c.measure.ensures) in
    let s = known_small _ _ _ _ _ _ k in
    omega (arith, s.units)

pub returns : goal.returns
returns c =
    let a = c.args in
    let k = known Four a.head.length_size (c.target_of-target.result) a.list.now a.item.now _
    (ap answer_of (sym c.in_ok-sizes.was) ∙ c.measure.ensures) in
    count_known Four a.head a.list.now a.item.now a.tols _ c.target_of-target.ensures _ k

pub returns-in_err-sizes : goal.returns-in_err-sizes
returns-in_err-sizes c =
    let a = c.args in
    passed_answer c.from_residual.result _ c.from_residual.ensures.1 ∙ count_unknown a.head a.list.now a.item.now a.tols _ c.target_of-target.ensures _
    (unknown Four _ _ _ _ _ (ap answer_of (sym c.in_err-sizes.was) ∙ c.measure.ensures))
