-- `measure_units` measures the units that are left of an array. Invariant: those measured and those left are the whole.
use Prim.Native.Nat.{◌-◌}
use mathlib.Core.Path.{◌≡◌}
use lib.ListN.{length}
use Rattle.list_arrays.proofs.Measures.{MeasuringUnits}
use Rattle.list_arrays.proofs.measure.measure_units.Given as goal

abbrev pub invariant-loop-unit : goal.invariant-loop-unit
invariant-loop-unit l = let f = l.fn.walk in (l.walk.list ≡ f.list) × MeasuringUnits l.width.bytes f.list.now f.cursor l.walk.cursor l.sum

abbrev pub decreases-loop-unit : goal.decreases-loop-unit
decreases-loop-unit l = length l.fn.walk.list.now - l.walk.cursor.at
