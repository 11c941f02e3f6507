-- `entries::add_units` adds the units that are left to the totals of their types. The loop's invariant: totals and units left make the whole.
use Prim.Native.Nat.{◌-◌}
use mathlib.Core.Path.{◌≡◌}
use lib.ListN.{length}
use Rattle.directory_fill.proofs.Adding.{Adding}
use Rattle.directory_fill.proofs.entries.add_units.Given as goal

abbrev pub invariant-loop-t : goal.invariant-loop-t
invariant-loop-t l = let f = l.fn.walk in (l.walk.list ≡ f.list) × Adding f.list.now f.cursor l.fn.totals l.walk.cursor l.totals

abbrev pub decreases-loop-t : goal.decreases-loop-t
decreases-loop-t l = length l.fn.walk.list.now - l.walk.cursor.at
