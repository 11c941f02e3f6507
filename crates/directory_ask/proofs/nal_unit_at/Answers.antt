-- `nal_unit_at`: as many entries are in use as the directory has at most, and the search is among those.
use mathlib.Core.Path.{sym, ap, ◌∙◌}
use Rattle.parse.specs.Answers.{answer_of}
use Rattle.parse.proofs.PassedOn.{passed_on}
use Rattle.directory.specs.Directory.{part_of_list}
use Rattle.directory.proofs.InUse.{used_fits}
use Rattle.directory_ask.proofs.Asking.{asked_is, asked_refused}
use Rattle.directory_ask.proofs.nal_unit_at.Goals as goal

pub returns-in_err-n : goal.returns-in_err-n
returns-in_err-n c =
    let a = c.args in
    rw (passed_on c.from_residual.result _ c.from_residual.ensures.1)
    (asked_refused a.asked a.list.now a.dir.now a.totals.now _ (ap answer_of (sym c.in_err-n.was) ∙ c.in_use.ensures), tt)

pub search-found-requires : goal.search-found-requires
search-found-requires c =
    let a = c.args in used_fits a.list.now a.totals.now _ c.in_ok-n.n (ap answer_of (sym c.in_ok-n.was) ∙ c.in_use.ensures)

pub returns : goal.returns
returns c =
    let a = c.args in (
      c.unit_place.ensures.0 ∙ ap (part_of_list a.list.now) c.search-found.ensures
          ∙ asked_is a.asked a.list.now a.dir.now a.totals.now c.in_ok-n.n (ap answer_of (sym c.in_ok-n.was) ∙ c.in_use.ensures),
      c.unit_place.ensures.1,
    )
