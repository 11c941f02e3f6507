-- `walk::unit_at` returns the unit that begins at a place, and the end where it has no bytes.
use borrow.Author.Tests.{eq-eqb, ne_eqb}
use Rattle.annex_b.specs.Stream.{non_empty}
use Rattle.annex_b.proofs.walk.unit_at.Goals as goal

pub returns-then-len-eq0 : goal.returns-then-len-eq0
unfolding non_empty
returns-then-len-eq0 c =
    rw (eq-eqb c.args.len 0 c.if-len-eq0.true)

pub returns : goal.returns
unfolding non_empty
returns c =
    rw (ne_eqb c.args.len 0 c.if-len-eq0.false)
