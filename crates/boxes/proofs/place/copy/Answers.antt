-- `place::copy` leaves the source's bytes from the place on, and no other byte changed. The loop's invariant: the first `done` bytes are copied.
use Prim.Native.Nat.{◌+◌, ◌-◌}
use mathlib.Core.Path.{◌≡◌, ap, ◌∙◌}
use native.Mathlib.Omega.{arith}
use lib.ListN.{length, take, drop}
use lib.Seq.{length-sets}
use Rattle.boxes.proofs.Sets.{sets_next}
use Rattle.boxes.proofs.place.copy.Goals as goal

pub loop-done-preserved : goal.loop-done-preserved
loop-done-preserved c =
    let a = c.args in
    let n = c.block_len-n.result in
    let b = c.block_len-n.ensures in
    let e = c.copy_block.ensures in
    let k : c.loop-done.done + n - c.loop-done.done ≡ n = omega arith in (
      omega (arith, b.0),
      ap length e ∙ length-sets c.loop-done.out (a.at + c.loop-done.done) (take (c.loop-done.done + n - c.loop-done.done) (drop c.loop-done.done a.src.now)) ∙ c.loop-done.invariant.1,
      e ∙ rw (c.loop-done.invariant.2, k) (sets_next a.out.now a.src.now a.at c.loop-done.done n c.loop-done.invariant.0),
    )
