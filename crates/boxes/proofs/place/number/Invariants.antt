-- `place::number` is the number of the bytes from the place on. The loop's invariant: `n` is the number of the first `k` of them.
use Prim.Native.Nat.{◌^◌, ◌≤◌, ◌<◌}
use mathlib.Core.Path.{◌≡◌}
use Rattle.boxes.specs.Bytes.{be}
use Rattle.boxes.proofs.place.number.Given as goal

abbrev pub invariant-loop-k : goal.invariant-loop-k
invariant-loop-k l = (l.k ≤ l.width) × (l.n ≡ be l.s l.at l.k) × (l.n < 256 ^ l.k)
