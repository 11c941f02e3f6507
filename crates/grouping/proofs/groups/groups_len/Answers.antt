-- `groups_len` returns the length of the arrays. Invariant: those measured and those left are the whole.
use native.Mathlib.Omega.{arith}
use Rattle.grouping.proofs.ArrayWalk.{summed_start, summed_met, summed_new, summed_end}
use Rattle.grouping.proofs.groups.groups_len.Goals as goal

pub loop-t-init : goal.loop-t-init
loop-t-init c = rw c.into_iter-t-iterator.ensures.into_iter_gives (summed_start _ _)

pub returns : goal.returns
returns c =
    let i = c.loop-t.invariant in
    let f = c.loop-t.t-iterator.readable.fits in
    (summed_end _ _ _ _ _ i c.in-None.ensures.steps, omega (arith, i.few, f.before, f.within, f.lent))

pub loop-t-preserved-then-not-seen-i : goal.loop-t-preserved-then-not-seen-i
loop-t-preserved-then-not-seen-i c =
    let u = c.in-Some.ensures.steps in
    let g = c.group_len.ensures in
    summed_new _ _ _ _ _ c.loop-t.invariant _ _ _ u.turn _ _ u.type_is u.small c.from-i.ensures (c.if-not-seen-i.true) _ g.0 g.1

pub loop-t-preserved : goal.loop-t-preserved
loop-t-preserved c =
    let u = c.in-Some.ensures.steps in
    summed_met _ _ _ _ _ c.loop-t.invariant _ _ _ u.turn _ _ u.type_is u.small c.from-i.ensures (c.if-not-seen-i.false)
