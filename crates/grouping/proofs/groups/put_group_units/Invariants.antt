-- `put_group_units` stores the units of a type. Invariant: those stored and those left are the whole.
use mathlib.Core.Path.{◌≡◌}
use Rattle.grouping.specs.inner.TypedUnits.{units_of}
use Rattle.grouping.proofs.OfType.{Stored}
use Rattle.grouping.proofs.groups.put_group_units.Given as goal

abbrev pub invariant-loop-unit : goal.invariant-loop-unit
invariant-loop-unit l =
    (l.unit-iterator.list.now ≡ l.fn.units.list.now)
    × Stored l.t (units_of l.fn.units) l.initial.out l.at (units_of l.unit-iterator) l.out l.to
