-- `put_groups` stores the arrays, each at the first unit of its type. Invariant: those stored and those left are the whole.
use Rattle.grouping.proofs.ArrayWalk.{laid_start, laid_room, laid_met, laid_new, laid_end}
use Rattle.grouping.proofs.groups.put_groups.Goals as goal

pub loop-t-init : goal.loop-t-init
loop-t-init c = rw c.into_iter-t-iterator.ensures.into_iter_gives (laid_start _ _ _)

pub returns : goal.returns
returns c =
    laid_end _ _ _ _ _ _ _ c.loop-t.invariant c.in-None.ensures.steps

pub put_group-to-requires : goal.put_group-to-requires
put_group-to-requires c =
    let u = c.in-Some.ensures.steps in
    laid_room _ _ _ _ _ _ _ c.loop-t.invariant _ _ _ _ u.turn _ _ u.type_is u.small c.from-i.ensures (c.if-not-stored-i.true)
    c.requires

pub loop-t-preserved-then-not-stored-i : goal.loop-t-preserved-then-not-stored-i
loop-t-preserved-then-not-stored-i c =
    let u = c.in-Some.ensures.steps in
    let p = c.put_group-to.ensures in
    laid_new _ _ _ _ _ _ _ c.loop-t.invariant _ _ _ _ u.turn _ _ u.type_is u.small c.from-i.ensures (c.if-not-stored-i.true)
    _ _ p.0 p.1

pub loop-t-preserved : goal.loop-t-preserved
loop-t-preserved c =
    let u = c.in-Some.ensures.steps in
    laid_met _ _ _ _ _ _ _ c.loop-t.invariant _ _ _ _ u.turn _ _ u.type_is u.small c.from-i.ensures (c.if-not-stored-i.false)
