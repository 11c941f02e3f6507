-- `fill`: what the calls left, put together.
use Rattle.std.proofs.Common.{◌∙◌, ap, sym}
use Rattle.parse.specs.Answers.{answer_of}
use Rattle.parse.proofs.PassedOn.{passed_on}
use Rattle.directory_fill.proofs.Fitting.{number_fits, counted_reads, filled_is, unfitting}
use Rattle.directory_fill.proofs.fill.Goals as goal

pub returns-in_err-n : goal.returns-in_err-n
returns-in_err-n c =
    let a = c.args in
    rw (passed_on c.from_residual.result _ c.from_residual.ensures.1)
    (unfitting a.list.now a.dir.now a.totals.now _ (ap answer_of (sym c.in_err-n.was) ∙ c.fitting.ensures))

pub fill_entries-requires : goal.fill_entries-requires
fill_entries-requires c = number_fits c.args.list.now c.args.dir.now _ (ap answer_of (sym c.in_ok-n.was) ∙ c.fitting.ensures)

pub put_counted_totals-requires : goal.put_counted_totals-requires
put_counted_totals-requires c = counted_reads c.args.list.now c.args.dir.now _ (ap answer_of (sym c.in_ok-n.was) ∙ c.fitting.ensures)

pub returns : goal.returns
returns c =
    let a = c.args in
    rw (c.fill_entries.ensures, c.put_counted_totals.ensures)
    (filled_is a.list.now a.dir.now _ (ap answer_of (sym c.in_ok-n.was) ∙ c.fitting.ensures) a.totals.now)
