-- `place::put_number` leaves the number's bytes from the place on. The loop's invariant: the last `k` bytes are stored; with those before
-- them stored too, all are.
use Prim.Native.Nat.{◌-◌, ◌≤◌}
use mathlib.Core.Path.{◌≡◌}
use lib.ListN.{length}
use lib.Seq.{sets}
use Rattle.boxes.specs.Bytes.{to_be}
use Rattle.boxes.proofs.place.put_number.Given as goal

abbrev pub invariant-loop-k : goal.invariant-loop-k
invariant-loop-k l = (l.k ≤ l.width) × (length l.out ≡ length l.initial.out) × (sets l.out l.at (to_be (l.width - l.k) l.n) ≡ sets l.initial.out l.at (to_be l.width l.v))
