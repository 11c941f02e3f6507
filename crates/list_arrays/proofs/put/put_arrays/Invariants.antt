-- `put_arrays` stores the arrays that are left. Invariant: those stored and those left are the whole.
use Prim.Native.Nat.{◌-◌}
use mathlib.Core.Path.{◌≡◌}
use lib.ListN.{length}
use Rattle.list_arrays.proofs.Stores.{PuttingArrays}
use Rattle.list_arrays.proofs.put.put_arrays.Given as goal

abbrev pub invariant-loop-complete : goal.invariant-loop-complete
invariant-loop-complete l = let f = l.fn.walk in (l.walk.list ≡ f.list)
    × PuttingArrays l.layout f.list.now f.cursor l.initial.out l.to l.walk.cursor l.out l.next

abbrev pub decreases-loop-complete : goal.decreases-loop-complete
decreases-loop-complete l = length l.fn.walk.list.now - l.walk.cursor.end
