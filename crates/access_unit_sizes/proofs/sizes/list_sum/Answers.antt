-- `sizes::list_sum` sums the units of a list.
use mathlib.Core.Path.{◌≡◌}
use Rattle.parse.specs.Answers.{answer_of}
use Rattle.parse.specs.Outcome.{accept, and_then}
use Rattle.unit_list.proofs.Turns.{walk_over}
use Rattle.access_unit_sizes.specs.inner.Sizes.{list_sum}
use Rattle.access_unit_sizes.proofs.sizes.list_sum.Goals as goal

pub returns : goal.returns
returns c =
    walk_over _ _ c.start.ensures (λ s o. answer_of c.units_sum.result ≡ and_then o (λ us. accept (list_sum s us))) _ c.in_ok-start.was
    c.units_sum.ensures
