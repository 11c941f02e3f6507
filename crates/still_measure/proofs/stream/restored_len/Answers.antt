-- `restored_len` returns the length of the item if the record has a length, or the first refusal.
use mathlib.Core.Path.{sym, ap, ◌∙◌}
use Rattle.parse.proofs.PassedOn.{passed_answer}
use Rattle.parse.specs.Answers.{answer_of}
use Rattle.still_measure.proofs.Items.{item_counted, item_refused}
use Rattle.still_measure.proofs.stream.restored_len.Goals as goal

pub returns : goal.returns
returns c =
    let a = c.args in
    item_counted a.config a.head a.list.now a.stored.now _ _ (sym (ap answer_of c.in_ok-record_len.was) ∙ c.record_len.ensures) c.item_len.ensures

pub returns-in_err-record_len : goal.returns-in_err-record_len
returns-in_err-record_len c =
    let a = c.args in
    passed_answer c.from_residual.result _ c.from_residual.ensures.1
    ∙ item_refused a.config a.head a.list.now a.stored.now _ (sym (ap answer_of c.in_err-record_len.was) ∙ c.record_len.ensures)
