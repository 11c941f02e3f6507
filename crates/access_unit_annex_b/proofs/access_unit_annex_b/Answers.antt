-- `access_unit_annex_b` writes the stream of the access unit, or returns the first refusal.
use mathlib.Core.Path.{sym, ap, ◌∙◌}
use lib.Seq.{sets}
use native.Mathlib.Omega.{arith}
use Rattle.parse.specs.Answers.{answer_of}
use Rattle.parse.proofs.PassedOn.{passed_output}
use Rattle.parse.proofs.Output.{written_refused, written_short, written_fits}
use Rattle.access_unit.specs.AccessUnit.{assemble}
use Rattle.access_unit_sizes.proofs.Gathering.{known, unknown}
use Rattle.access_unit_sizes.proofs.Answering.{assemble_unknown, assemble_known}
use Rattle.access_unit_annex_b.proofs.access_unit_annex_b.Goals as goal

pub returns-then-out-sizes : goal.returns-then-out-sizes
returns-then-out-sizes c =
    let a = c.args in
    let m = assemble_known a.codes a.head a.list.now a.item.now a.tols _ c.target_of-target.ensures _
    (known a.codes _ _ _ _ _ (ap answer_of (sym c.in_ok-sizes.was) ∙ c.measure.ensures)) in
    written_short (assemble a.codes a.head a.list.now a.item.now a.tols) a.out.now m.bytes m.given
    (omega (arith, m.long))

pub returns : goal.returns
returns c =
    let a = c.args in
    let m = assemble_known a.codes a.head a.list.now a.item.now a.tols _ c.target_of-target.ensures _
    (known a.codes _ _ _ _ _ (ap answer_of (sym c.in_ok-sizes.was) ∙ c.measure.ensures)) in
    written_fits (assemble a.codes a.head a.list.now a.item.now a.tols) a.out.now m.bytes m.given
    _ _ m.long c.if-out-sizes.false (c.put_stream.ensures ∙ ap (sets a.out.now 0) m.found)

pub returns-in_err-sizes : goal.returns-in_err-sizes
returns-in_err-sizes c =
    let a = c.args in
    passed_output c.from_residual.result _ c.from_residual.ensures.1 a.out.now ∙ written_refused (assemble a.codes a.head a.list.now a.item.now a.tols) a.out.now _
    (assemble_unknown a.codes a.head a.list.now a.item.now a.tols _ c.target_of-target.ensures _
    (unknown a.codes _ _ _ _ _ (ap answer_of (sym c.in_err-sizes.was) ∙ c.measure.ensures)))
