-- `measure_arrays` measures the arrays that are left. Invariant: those measured and those left are the whole.
use Prim.Native.Nat.{◌-◌}
use mathlib.Core.Path.{◌≡◌}
use lib.ListN.{length}
use Rattle.list_arrays.proofs.Measures.{MeasuringArrays}
use Rattle.list_arrays.proofs.measure.measure_arrays.Given as goal

abbrev pub invariant-loop-array : goal.invariant-loop-array
invariant-loop-array l = let f = l.fn.walk in (l.walk.list ≡ f.list) × MeasuringArrays l.layout f.list.now f.cursor l.walk.cursor l.sum

abbrev pub decreases-loop-array : goal.decreases-loop-array
decreases-loop-array l = length l.fn.walk.list.now - l.walk.cursor.end
