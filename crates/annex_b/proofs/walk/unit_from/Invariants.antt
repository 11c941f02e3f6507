-- `walk::unit_from` returns the first unit whose start code is at or after the place. The invariant of both loops: from the place on come the unit
-- that begins at `start`, up to the start code that follows `i`, and those from there on.
use Prim.Native.Nat.{◌-◌, ◌≤◌}
use lib.ListN.{length}
use Rattle.annex_b.proofs.Streams.{Walking}
use Rattle.annex_b.proofs.walk.unit_from.Given as goal

abbrev pub invariant-loop-i : goal.invariant-loop-i
invariant-loop-i l = (l.initial.i ≤ l.i) × Walking l.s l.from l.start l.i

abbrev pub decreases-loop-i : goal.decreases-loop-i
decreases-loop-i l = length l.s - l.i

abbrev pub invariant-walk : goal.invariant-walk
invariant-walk l = Walking l.s l.from l.start l.i

abbrev pub decreases-walk : goal.decreases-walk
decreases-walk l = length l.s - l.i
