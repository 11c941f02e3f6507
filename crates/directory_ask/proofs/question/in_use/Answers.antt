-- `question::in_use`: total after total is taken from the room.
use mathlib.Core.Path.{ap, ◌∙◌}
use native.Mathlib.Omega.{arith}
use Rattle.parse.specs.Outcome.{accept}
use Rattle.directory.proofs.InUse.{used_too_long, used_outnumber, used_fit}
use Rattle.directory_ask.proofs.Sums.{taken_start, taken_too_many, taken_more, taken_all}
use Rattle.directory_ask.proofs.question.in_use.Goals as goal

pub returns-then-list-gt-LARGEST_INPUT : goal.returns-then-list-gt-LARGEST_INPUT
returns-then-list-gt-LARGEST_INPUT c = let a = c.args in used_too_long a.list.now a.totals.now a.room (omega arith)

pub loop-total-init : goal.loop-total-init
loop-total-init c = taken_start c.args.totals.now c.args.room

pub returns-then-left-total : goal.returns-then-left-total
returns-then-left-total c =
    let a = c.args in
    let l = c.loop-total in
    used_outnumber a.list.now a.totals.now a.room (omega arith)
    (taken_too_many a.totals.now a.room l.left l.total-index l.invariant (omega arith) (omega arith))

pub loop-total-preserved : goal.loop-total-preserved
loop-total-preserved c =
    let l = c.loop-total in
    taken_more c.args.totals.now c.args.room l.left l.total-index l.invariant (omega arith) (omega arith)

pub returns : goal.returns
returns c =
    let a = c.args in
    let l = c.loop-total in
    let e = taken_all a.totals.now a.room l.left l.total-index l.invariant (omega arith) in
    ap accept e.0 ∙ used_fit a.list.now a.totals.now a.room (omega arith) e.1
