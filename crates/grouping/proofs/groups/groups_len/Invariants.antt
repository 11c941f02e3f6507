-- `groups_len` returns the length of the arrays. Invariant: those measured and those left are the whole.
use Rattle.grouping.specs.inner.TypedUnits.{units_of}
use Rattle.grouping.proofs.ArrayWalk.{Summed}
use Rattle.grouping.proofs.groups.groups_len.Given as goal

abbrev pub invariant-loop-t : goal.invariant-loop-t
invariant-loop-t l = Summed (units_of l.fn.units) (units_of l.t-iterator) l.t-iterator.cursor.at l.seen l.len
