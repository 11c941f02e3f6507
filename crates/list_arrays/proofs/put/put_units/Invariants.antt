-- `put_units` stores the units that are left of an array. Invariant: those stored and those left are the whole.
use Prim.Native.Nat.{◌-◌}
use mathlib.Core.Path.{◌≡◌}
use lib.ListN.{length}
use Rattle.list_arrays.proofs.Stores.{PuttingUnits}
use Rattle.list_arrays.proofs.put.put_units.Given as goal

abbrev pub invariant-loop-unit : goal.invariant-loop-unit
invariant-loop-unit l = let f = l.fn.walk in (l.walk.list ≡ f.list) × PuttingUnits l.width.bytes f.list.now f.cursor l.initial.out l.to l.walk.cursor l.out l.at

abbrev pub decreases-loop-unit : goal.decreases-loop-unit
decreases-loop-unit l = length l.fn.walk.list.now - l.walk.cursor.at
