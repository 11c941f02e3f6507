-- `put_groups` stores the arrays, each at the first unit of its type. Invariant: those stored and those left are the whole.
use Rattle.grouping.specs.inner.TypedUnits.{units_of}
use Rattle.grouping.proofs.ArrayWalk.{Laid}
use Rattle.grouping.proofs.groups.put_groups.Given as goal

abbrev pub invariant-loop-t : goal.invariant-loop-t
invariant-loop-t l = Laid (units_of l.fn.units) l.initial.out l.at (units_of l.t-iterator) l.stored l.out l.to
