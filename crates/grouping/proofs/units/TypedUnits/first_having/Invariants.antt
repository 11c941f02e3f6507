-- `TypedUnits::first_having` finds the first unit of a type. Invariant: all units of that type are still to come.
use mathlib.Core.Path.{◌≡◌}
use Rattle.grouping.specs.Grouping.{having_type}
use Rattle.grouping.specs.inner.TypedUnits.{units_of}
use Rattle.grouping.proofs.units.TypedUnits.first_having.Given as goal

abbrev pub invariant-loop-unit : goal.invariant-loop-unit
invariant-loop-unit l =
    (l.unit-iterator.list.now ≡ l.fn.self.list.now) × (having_type l.t (units_of l.unit-iterator) ≡ having_type l.t (units_of l.fn.self))
