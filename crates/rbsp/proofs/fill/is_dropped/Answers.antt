-- `is_dropped` is the definition's test for a 03 that is left out: by cases.
use native.Mathlib.Omega.{arith}
use borrow.Author.Tests.{lt-leb, le-leb}
use Rattle.rbsp.specs.Rbsp.{drops}
use Rattle.rbsp.proofs.fill.is_dropped.Goals as goal

pub returns-then-zeros-lt2 : goal.returns-then-zeros-lt2
unfolding drops
returns-then-zeros-lt2 c =
    rw (lt-leb 2 c.args.zeros (omega arith))

pub returns : goal.returns
unfolding drops
returns c =
    rw (le-leb 2 c.args.zeros (omega arith))
