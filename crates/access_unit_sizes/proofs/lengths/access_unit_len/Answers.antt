-- `lengths::access_unit_len` returns the length of the stream of the access unit.
use mathlib.Core.Path.{sym, ap, ◌∙◌}
use Rattle.parse.specs.Answers.{answer_of}
use Rattle.parse.proofs.PassedOn.{passed_answer}
use Rattle.access_unit_sizes.proofs.Gathering.{known, unknown}
use Rattle.access_unit_sizes.proofs.Answering.{length_known, length_unknown}
use Rattle.access_unit_sizes.proofs.lengths.access_unit_len.Goals as goal

pub returns : goal.returns
returns c =
    let a = c.args in
    length_known a.codes a.head a.list.now a.item.now a.tols _ c.target_of-target.ensures _
    (known a.codes _ _ _ _ _ (ap answer_of (sym c.in_ok-sizes.was) ∙ c.measure.ensures))

pub returns-in_err-sizes : goal.returns-in_err-sizes
returns-in_err-sizes c =
    let a = c.args in
    passed_answer c.from_residual.result _ c.from_residual.ensures.1 ∙ length_unknown a.codes a.head a.list.now a.item.now a.tols _ c.target_of-target.ensures _
    (unknown a.codes _ _ _ _ _ (ap answer_of (sym c.in_err-sizes.was) ∙ c.measure.ensures))
