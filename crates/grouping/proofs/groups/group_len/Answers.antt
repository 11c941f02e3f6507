-- `group_len` returns the length of the units of a type. Invariant: those passed and those left are the whole.
use mathlib.Core.Path.{sym, ◌∙◌}
use native.Mathlib.Omega.{arith}
use Rattle.grouping.proofs.OfType.{measured_same, measured_other, measured_end}
use Rattle.grouping.proofs.groups.group_len.Goals as goal

pub returns : goal.returns
returns c =
    let i = c.loop-unit.invariant in
    let f = c.loop-unit.unit-iterator.readable.fits in
    (measured_end _ _ _ _ _ i c.in-None.ensures.steps, omega (arith, i.few, f.before, f.within, f.lent))

pub loop-unit-preserved-then-found-t : goal.loop-unit-preserved-then-found-t
loop-unit-preserved-then-found-t c =
    let u = c.in-Some.ensures.steps in
    measured_same _ _ _ _ _ c.loop-unit.invariant _ _ _ u.turn (sym u.type_is ∙ c.if-found-t.true) _ u.long

pub loop-unit-preserved : goal.loop-unit-preserved
loop-unit-preserved c =
    let u = c.in-Some.ensures.steps in
    measured_other _ _ _ _ _ c.loop-unit.invariant _ _ _ u.turn (λ e. c.if-found-t.false (u.type_is ∙ e))
