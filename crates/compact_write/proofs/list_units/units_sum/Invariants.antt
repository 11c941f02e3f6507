-- `list_units::units_sum` measures the units that are left of a walk. Invariant: those passed and those left are the whole.
use Prim.Native.Nat.{◌-◌}
use mathlib.Core.Path.{◌≡◌}
use lib.ListN.{length}
use Rattle.compact_write.proofs.ListUnits.{Summing}
use Rattle.compact_write.proofs.list_units.units_sum.Given as goal

abbrev pub invariant-loop-unit : goal.invariant-loop-unit
invariant-loop-unit l = let f = l.fn.walk in (l.walk.list ≡ f.list) × Summing f.list.now f.cursor l.walk.cursor l.sum

abbrev pub decreases-loop-unit : goal.decreases-loop-unit
decreases-loop-unit l = length l.fn.walk.list.now - l.walk.cursor.at
