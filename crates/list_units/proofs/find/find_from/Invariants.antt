-- `find::find_from` counts the wanted units that are left and finds number k. The loop's invariant: what is passed and what is left are all.
use Prim.Native.Nat.{◌-◌}
use mathlib.Core.Path.{◌≡◌}
use lib.ListN.{length}
use Rattle.list_units.proofs.Seen.{Walked}
use Rattle.list_units.proofs.find.find_from.Given as goal

abbrev pub invariant-loop-unit : goal.invariant-loop-unit
invariant-loop-unit l = let f = l.fn.walk in (l.walk.list ≡ f.list) × Walked f.list.now f.cursor l.w l.k l.walk.cursor l.seen

abbrev pub decreases-loop-unit : goal.decreases-loop-unit
decreases-loop-unit l = length l.fn.walk.list.now - l.walk.cursor.at
