-- `question::in_use`: the totals that are taken and what is left make up the room.
use Rattle.directory_ask.proofs.Sums.{Taken}
use Rattle.directory_ask.proofs.question.in_use.Given as goal

abbrev pub invariant-loop-total : goal.invariant-loop-total
invariant-loop-total l = Taken l.totals l.room l.left l.total-index
