-- `question::search`: entry k of those in use.
use mathlib.Core.Path.{◌∙◌}
use Rattle.directory_ask.proofs.Searching.{nth_got}
use Rattle.directory_ask.proofs.question.search.Goals as goal

pub returns-in-Number : goal.returns-in-Number
returns-in-Number c =
    let l = c.get.ensures.lookup in rw c.in-Number.is (c.copied.ensures ∙ nth_got (λ x. x.now) c.get.result _ c.in-Number.k l.0 l.1)
