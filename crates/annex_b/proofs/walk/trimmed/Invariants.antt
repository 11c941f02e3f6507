-- `walk::trimmed` is the length without trailing zeros. The loop's invariant: up to the places that were looked at the same is left as up to `to`.
use Prim.Native.Nat.{◌-◌, ◌≤◌}
use mathlib.Core.Path.{◌≡◌}
use lib.ListN.{take, drop}
use Rattle.annex_b.specs.Stream.{trim}
use Rattle.annex_b.proofs.walk.trimmed.Given as goal

abbrev pub invariant-loop-i : goal.invariant-loop-i
invariant-loop-i l = (l.i ≤ l.to) × (trim (take (l.i - l.from) (drop l.from l.s)) ≡ trim (take (l.to - l.from) (drop l.from l.s)))
