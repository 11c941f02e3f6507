-- `forbidden::first_place` returns the first place of what may not occur in a unit. The loop's invariant: it is not from the front up to `i`.
use Prim.Native.Nat.{◌+◌, ◌-◌, ◌≤◌}
use mathlib.Core.Path.{◌≡◌}
use lib.ListN.{length, drop}
use Rattle.start_code.specs.StartCode.{bytes_before}
use Rattle.unit_check.specs.UnitCheck.{starts_forbidden}
use Rattle.unit_check.proofs.forbidden.first_place.Given as goal

abbrev pub invariant-loop-i : goal.invariant-loop-i
invariant-loop-i l = (l.i ≤ length l.u) × (bytes_before starts_forbidden l.u ≡ l.i + bytes_before starts_forbidden (drop l.i l.u))

abbrev pub decreases-loop-i : goal.decreases-loop-i
decreases-loop-i l = length l.u - l.i
