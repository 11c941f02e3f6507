-- `read_values` reads the values one after another: k of them are at the front of the array.
use native.Mathlib.Omega.{arith}
use Rattle.std.proofs.Common.{ap, length}
use Rattle.std.proofs.lemmas.Result.{err_from_is_err_and}
use Rattle.ptl_bits.proofs.SubProfileValues.{going_start, going_on, going_refused, going_end}
use Rattle.ptl_bits.proofs.sub_profiles.read_values.Goals as goal

pub loop-k-init : goal.loop-k-init
loop-k-init c = going_start _ _ _

pub u-requires : goal.u-requires
u-requires c = let e = ap (λ s. length s.now) c.loop-k.invariant.bytes in omega arith

pub returns-in_err-values : goal.returns-in_err-values
returns-in_err-values c =
    let p = err_from_is_err_and c.from_residual.result c.from_residual.ensures.1 in
    rw (p.1, p.2) (going_refused _ _ _ _ _ _ c.loop-k.invariant (omega arith) (omega arith) _ _ c.in_err-values.ensures.read.reads)

pub loop-k-preserved : goal.loop-k-preserved
loop-k-preserved c = going_on _ _ _ _ _ _ c.loop-k.invariant (omega arith) (omega arith) _ _ c.in_ok-values.ensures.read.reads

pub returns : goal.returns
returns c = going_end _ _ _ _ _ _ c.loop-k.invariant (omega arith) (omega arith) (omega arith)
