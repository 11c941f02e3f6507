-- `question::first_of_type`: each entry is the first of its type, or it is passed over.
use mathlib.Core.Path.{sym, ◌∙◌}
use native.Mathlib.Omega.{arith}
use Rattle.directory_ask.proofs.Searching.{first_here, first_after, first_none}
use Rattle.directory_ask.proofs.question.first_of_type.Goals as goal

pub returns-then-e-t : goal.returns-then-e-t
returns-then-e-t c = first_here c.args.t c.args.dir.now _ c.loop-e.e-index (omega arith) (grind arith) ∙ sym c.loop-e.invariant

pub loop-e-preserved : goal.loop-e-preserved
loop-e-preserved c =
    c.loop-e.invariant ∙ first_after c.args.t c.args.dir.now (record { unit_type = 0; offset = 0; len = 0 }) c.loop-e.e-index (omega arith) (grind arith)

pub returns : goal.returns
returns c = first_none c.args.t c.args.dir.now c.loop-e.e-index (omega arith) ∙ sym c.loop-e.invariant
