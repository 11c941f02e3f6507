-- `fill_rbsp` writes as much of the RBSP as there is room for: what is at the front and what is left make up the whole.
use mathlib.Core.Path.{sym, ◌∙◌}
use native.Mathlib.Omega.{arith}
use Rattle.rbsp.proofs.Filling.{fill_kept, fill_dropped, fill_end}
use Rattle.rbsp.proofs.fill.fill_rbsp.Goals as goal
use Rattle.rbsp.proofs.fill.fill_rbsp.Goals.{else-not-is_dropped, then-not-is_dropped+else-n-out}

pub loop-b-preserved : goal.loop-b-preserved
loop-b-preserved c =
    let d = c.is_dropped.ensures in
    elim c.if-not-is_dropped.branch [
      | then-not-is_dropped+else-n-out w ↦ rw (w.out-is, w.n-is) (fill_kept _ _ _ _ _ _ _ c.loop-b.invariant (omega arith) c.next_zeros-zeros.ensures
          (sym d ∙ w.if-not-is_dropped.true) (omega arith))
      | else-not-is_dropped w ↦ rw (w.out-is, w.n-is) (fill_dropped _ _ _ _ _ _ _ c.loop-b.invariant (omega arith) c.next_zeros-zeros.ensures
          (sym d ∙ w.if-not-is_dropped.false))
    ]

pub returns : goal.returns
returns c =
    fill_end _ _ _ _ _ _ c.loop-b.invariant (omega arith)
