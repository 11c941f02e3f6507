-- `next_zeros` counts zeros as the definition does: by cases.
use borrow.Author.Tests.{eq-eqb, ne_eqb}
use Rattle.rbsp.specs.Rbsp.{next_zeros}
use Rattle.rbsp.proofs.fill.next_zeros.Goals as goal

pub returns-then-b-eq0 : goal.returns-then-b-eq0
unfolding next_zeros
returns-then-b-eq0 c =
    rw (eq-eqb _ _ c.if-b-eq0.true)

pub returns-else-b-eq0 : goal.returns-else-b-eq0
unfolding next_zeros
returns-else-b-eq0 c =
    rw (ne_eqb _ _ c.if-b-eq0.false)
