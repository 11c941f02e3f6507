-- `entries::put_counted_totals`: the totals of the whole list, where it was counted.
use mathlib.Core.Path.{subst}
use Prim.Native.Nat.{ℕ}
use Rattle.std.specs.Prelude.{Result}
use Rattle.error.specs.declared.Refusal.{Refusal}
use Rattle.parse.specs.Answers.{answer_of}
use Rattle.directory_fill.specs.inner.Entries.{CountedOf}
use Rattle.directory_fill.proofs.Fitting.{walk_entries, walk_reads}
use Rattle.directory_fill.proofs.entries.put_counted_totals.Goals as goal

pub put_totals-requires : goal.put_totals-requires
put_totals-requires c =
    walk_reads _ _ c.start.ensures _ c.in-Ok-start.is (subst (λ (r : Result ℕ Refusal). CountedOf c.args.list.now (answer_of r)) c.in-Ok.is c.requires)

pub returns : goal.returns
returns c = rw (c.in-Ok.is, ← (walk_entries _ _ c.start.ensures _ c.in-Ok-start.is)) c.put_totals.ensures
