-- `start_code::start_code` returns the first start code at or after the place. The loop's invariant: there is none from the place up to `i`.
use Prim.Native.Nat.{◌+◌, ◌-◌, ◌≤◌}
use mathlib.Core.Path.{◌≡◌}
use lib.ListN.{length, drop}
use Rattle.start_code.specs.StartCode.{scan}
use Rattle.start_code.proofs.scan.start_code.Given as goal

abbrev pub invariant-loop-i : goal.invariant-loop-i
invariant-loop-i l = (l.i ≤ length l.s) × (l.from + scan (drop l.from l.s) ≡ l.i + scan (drop l.i l.s))

abbrev pub decreases-loop-i : goal.decreases-loop-i
decreases-loop-i l = length l.s - l.i
