-- `nal_count_of_type`: the total, where the entries in use do not outnumber the directory.
use mathlib.Core.Path.{sym, ap, ◌∙◌}
use Rattle.parse.specs.Answers.{answer_of}
use Rattle.parse.proofs.PassedOn.{passed_on}
use Rattle.directory_ask.proofs.Asking.{counted_is, count_refused}
use Rattle.directory_ask.proofs.nal_count_of_type.Goals as goal

pub returns-in_err-in_use : goal.returns-in_err-in_use
returns-in_err-in_use c =
    let a = c.args in
    rw (passed_on c.from_residual.result _ c.from_residual.ensures.1)
    (count_refused a.t a.list.now a.dir.now a.totals.now _ (ap answer_of (sym c.in_err-in_use.was) ∙ c.in_use.ensures))

pub returns : goal.returns
returns c =
    let a = c.args in
    rw c.total.ensures (counted_is a.t a.list.now a.dir.now a.totals.now _ (ap answer_of (sym c.in_ok-in_use.was) ∙ c.in_use.ensures))
