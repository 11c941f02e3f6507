-- `next_unit` returns the first unit from a place on; 23 first.
use mathlib.Core.Path.{sym}
use native.Mathlib.Omega.{arith}
use Rattle.annex_b.proofs.Streams.{units_end, given_lent}
use Rattle.annex_b.proofs.next_unit.Goals as goal

pub returns-then-stream-from : goal.returns-then-stream-from
returns-then-stream-from c =
    let a = c.args in
    sym (given_lent a.stream.now a.from _ (omega arith) (units_end a.stream.now a.from c.if-stream-from.true))
