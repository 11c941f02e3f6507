-- The test's walks: the list was counted, so its units read, and those after the first too.
use mathlib.Core.Path.{refl, sym, ap, ◌∙◌}
use lib.ListN.{replicate}
use Rattle.std.specs.Prelude.{Ok}
use Rattle.parse.specs.Answers.{answer_of}
use Rattle.unit_list.proofs.Turns.{walk_found}
use Rattle.directory.specs.declared.Entry.{Entry}
use Rattle.directory_fill.specs.inner.Entries.{LeftReads}
use Rattle.directory_fill.proofs.Fitting.{counted_reads, walk_reads}
use Rattle.directory_fill.proofs.Reading.{read_turn}
use Rattle.directory_fill.proofs.entries.tests.totals_twice.Goals as goal
use Rattle.directory_fill.proofs.entries.tests.totals_twice.Goals.{In_ok-walk}

no_entry : Entry
no_entry = record { unit_type = 0; offset = 0; len = 0 }

-- the walk's units read; the list was counted for a directory of three entries, whatever they are
reads : (c : In_ok-walk) → LeftReads c.in_ok-walk.walk
reads c =
    walk_reads _ _ c.start.ensures _ c.in_ok-walk.was
    (counted_reads c.args.list.now (replicate 3 no_entry) c.in_ok-fitting.field-0 (ap answer_of (sym c.in_ok-fitting.was) ∙ c.fitting.ensures))

pub put_totals-requires : goal.put_totals-requires
put_totals-requires c = reads (goal.at.put_totals-requires c).In_ok-walk

pub put_totals-requires-in-Some : goal.put_totals-requires-in-Some
put_totals-requires-in-Some c =
    let w = c.in_ok-walk.walk in
    let n = c.next_unit.ensures in
    let turn = walk_found w.list w c.next_unit.new.self refl _ n.steps _ (c.in_ok-next_unit.was ∙ ap Ok c.in-Some.is) in
    rw n.same (read_turn w.list.now w.cursor (reads (goal.at.put_totals-requires-in-Some c).In_ok-walk) _ _ turn).units
