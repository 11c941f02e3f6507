-- `question::first_of_type`: the first of the entries is the first of those that are left.
use mathlib.Core.Path.{◌≡◌}
use lib.ListN.{drop}
use Rattle.directory_ask.proofs.Searching.{first_of}
use Rattle.directory_ask.proofs.question.first_of_type.Given as goal

abbrev pub invariant-loop-e : goal.invariant-loop-e
invariant-loop-e l = first_of l.t l.dir ≡ first_of l.t (drop l.e-index l.dir)
