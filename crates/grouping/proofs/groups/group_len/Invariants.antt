-- `group_len` returns the length of the units of a type. Invariant: those passed and those left are the whole.
use Rattle.grouping.specs.inner.TypedUnits.{units_of}
use Rattle.grouping.proofs.OfType.{TypeMeasured}
use Rattle.grouping.proofs.groups.group_len.Given as goal

abbrev pub invariant-loop-unit : goal.invariant-loop-unit
invariant-loop-unit l = TypeMeasured l.t (units_of l.fn.units) (units_of l.unit-iterator) l.unit-iterator.cursor.at l.len
