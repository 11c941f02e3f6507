-- `serialize` writes the record of the units of a list, or returns the refusal of the list.
use Prim.Native.Nat.{ℕ}
use mathlib.Core.Path.{ap, ◌∙◌}
use mathlib.Core.List.{List}
use Rattle.parse.specs.Outcome.{Outcome, lent_output, counted}
use Rattle.parse.proofs.Output.{written_refused}
use Rattle.parse.proofs.PassedOn.{passed_on}
use Rattle.compact_write.proofs.ListUnits.{serialize_start, serialize_refused}
use Rattle.compact_write.proofs.serialize.Goals as goal

pub returns-in_err-walk : goal.returns-in_err-walk
returns-in_err-walk c =
    let a = c.args in
    rw (passed_on c.from_residual.result _ c.from_residual.ensures.1)
    (written_refused _ a.out.now _ (serialize_refused a.config a.list c.start.result c.start.ensures _ c.in_err-walk.was))

pub returns : goal.returns
returns c =
    let a = c.args in
    c.put_compact.ensures
    ∙ ap (λ (o : Outcome (List ℕ)). lent_output (counted o) a.out.now)
    (serialize_start a.config a.list c.start.result c.start.ensures c.in_ok-walk.walk c.in_ok-walk.was)
