-- `place::number` is the number of the bytes from the place on. The loop's invariant: `n` is the number of the first `k` of them.
use native.Mathlib.Omega.{arith}
use borrow.Author.Rules.{rules}
use Rattle.boxes.specs.Bytes.{be}
use Rattle.boxes.proofs.Numbers.{be_more, below_more, below_four}
use Rattle.boxes.proofs.place.number.Goals as goal

pub loop-k-init : goal.loop-k-init
unfolding be
loop-k-init c =
    search rules

pub overflow_mul-n : goal.overflow_mul-n
overflow_mul-n c =
    omega (arith, below_four c.loop-k.n c.loop-k.k (omega arith) c.loop-k.invariant.2)

pub overflow_add-n : goal.overflow_add-n
overflow_add-n c =
    omega (arith, below_four c.loop-k.n c.loop-k.k (omega arith) c.loop-k.invariant.2)

pub loop-k-preserved : goal.loop-k-preserved
loop-k-preserved c = (
  omega arith,
  omega (arith, be_more c.args.s.now c.args.at c.loop-k.k),
  below_more c.loop-k.n c.loop-k.k c.from.result c.loop-k.invariant.2 (omega arith),
)
