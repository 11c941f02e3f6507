-- `read_levels` reads the levels from the highest down: those still to be read come before those stored.
use native.Mathlib.Omega.{arith}
use Rattle.std.proofs.Common.{ap, length, ◌-◌}
use Rattle.std.proofs.lemmas.Result.{err_from_is_err_and}
use Rattle.ptl_bits.proofs.SublayerLevels.{levels_start, levels_on, levels_refused, levels_end}
use Rattle.ptl_bits.proofs.sublayers.read_levels.Goals as goal

pub loop-sublayer-init : goal.loop-sublayer-init
loop-sublayer-init c = levels_start _ _ _ _ (omega arith)

pub u_if-requires : goal.u_if-requires
u_if-requires c = let e = ap (λ s. length s.now) c.loop-sublayer.invariant.bytes in omega arith

pub returns-in_err-level : goal.returns-in_err-level
returns-in_err-level c =
    let p = err_from_is_err_and c.from_residual.result c.from_residual.ensures.1 in
    rw (p.1, p.2) (levels_refused _ _ _ _ _ _ _ _ c.loop-sublayer.invariant (c.loop-sublayer.sublayer - 1) (omega arith) _ _ c.in_err-level.ensures.read.reads)

pub loop-sublayer-preserved : goal.loop-sublayer-preserved
loop-sublayer-preserved c =
    levels_on _ _ _ _ _ _ _ _ c.loop-sublayer.invariant _ (omega arith) _ _ c.in_ok-level.ensures.read.reads (omega arith)

pub returns : goal.returns
returns c = levels_end _ _ _ _ _ _ _ _ c.loop-sublayer.invariant (omega arith)
