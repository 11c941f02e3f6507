-- `rbsp_len` returns the length of the RBSP: what is counted and what is left make up the whole.
use mathlib.Core.Path.{sym, ap, ◌∙◌}
use native.Mathlib.Omega.{arith}
use lib.ListN.{length, get_or}
use Rattle.rbsp.proofs.Removal.{step_end, zeros_le, measure_kept, measure_dropped}
use Rattle.rbsp.proofs.fill.rbsp_len.Goals as goal
use Rattle.rbsp.proofs.fill.rbsp_len.Goals.{else-not-is_dropped, then-not-is_dropped}

pub loop-b-preserved : goal.loop-b-preserved
loop-b-preserved c =
    let bytes = c.args.payload.now in
    let d = c.is_dropped.ensures in (
      omega arith,
      omega (arith, c.next_zeros-zeros.ensures, zeros_le c.loop-b.zeros (get_or bytes c.loop-b.b-index 0)),
      (elim c.if-not-is_dropped.branch [ then-not-is_dropped w ↦ omega arith | else-not-is_dropped w ↦ omega arith ]),
      (elim c.if-not-is_dropped.branch [
        | then-not-is_dropped w ↦ measure_kept _ c.loop-b.zeros _ c.loop-b.b-index c.loop-b.n _ bytes (omega arith) c.next_zeros-zeros.ensures c.loop-b.invariant.3
            (sym d ∙ w.if-not-is_dropped.true) w.n-is
        | else-not-is_dropped w ↦ measure_dropped _ c.loop-b.zeros _ c.loop-b.b-index c.loop-b.n _ bytes (omega arith) c.next_zeros-zeros.ensures c.loop-b.invariant.3
            (sym d ∙ w.if-not-is_dropped.false) w.n-is
      ]),
    )

pub returns : goal.returns
returns c =
    omega (arith, c.loop-b.invariant.3, ap length (step_end c.loop-b.zeros c.loop-b.b-index c.args.payload.now (omega arith)))
