-- `place::copy` leaves the source's bytes from the place on, and no other byte changed. The loop's invariant: the first `done` bytes are copied.
use Prim.Native.Nat.{◌-◌, ◌≤◌}
use mathlib.Core.Path.{◌≡◌}
use lib.ListN.{length, take}
use lib.Seq.{sets}
use Rattle.boxes.proofs.place.copy.Given as goal

abbrev pub invariant-loop-done : goal.invariant-loop-done
invariant-loop-done l = (l.done ≤ length l.src) × (length l.out ≡ length l.initial.out) × (l.out ≡ sets l.initial.out l.at (take l.done l.src))

abbrev pub decreases-loop-done : goal.decreases-loop-done
decreases-loop-done l = length l.src - l.done
