-- `place::put_number` leaves the number's bytes from the place on. The loop's invariant: the last `k` bytes are stored; with those before
-- them stored too, all are.
use Prim.Native.Nat.{ℕ, ◌+◌, ◌-◌, ◌%◌}
use mathlib.Core.Path.{◌≡◌, ap, ◌∙◌}
use native.Mathlib.Omega.{arith}
use lib.ListN.{length-set}
use lib.Seq.{sets}
use Rattle.boxes.specs.Bytes.{to_be}
use Rattle.boxes.proofs.Sets.{sets_to_be}
use Rattle.boxes.proofs.place.put_number.Goals as goal

pub loop-k-preserved : goal.loop-k-preserved
loop-k-preserved c =
    let a = c.args in (
      omega arith,
      length-set c.loop-k.out (a.at + a.width - (c.loop-k.k + 1)) (c.loop-k.n % 256) ∙ c.loop-k.invariant.1,
      sets_to_be c.loop-k.out a.at a.width c.loop-k.k c.loop-k.n (omega arith) ∙ c.loop-k.invariant.2,
    )

pub returns : goal.returns
unfolding to_be
returns c =
    let a = c.args in
    let e : 0 ≡ a.width - c.loop-k.k = omega arith in
    ap (λ (k : ℕ). sets c.loop-k.out a.at (to_be k c.loop-k.n)) e ∙ c.loop-k.invariant.2
