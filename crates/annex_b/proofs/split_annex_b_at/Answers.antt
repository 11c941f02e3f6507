-- `split_annex_b_at` says where unit k of a stream lies. The loop's invariant: unit `left` of those left is unit k.
use mathlib.Core.Path.{ap, ◌∙◌}
use native.Mathlib.Omega.{arith}
use Rattle.std.specs.Prelude.{Ok}
use Rattle.boxes.specs.Walk.{count_found}
use Rattle.boxes.proofs.Places.{place_past}
use Rattle.annex_b.proofs.Streams.{Passed, stream_left, split_whole, passed_here, passed_next, next_passed, next_ended}
use Rattle.annex_b.proofs.split_annex_b_at.Goals as goal
use Rattle.annex_b.proofs.split_annex_b_at.Goals.{In-Some}

-- the step over the unit found
passed : (c : In-Some) → Passed c.args.stream.now c.loop-found.at c.in-Some.found.unit c.in-Some.found.next
passed c = next_passed _ _ c.next_unit.result c.next_unit.ensures _ (c.in_ok-found.was ∙ ap Ok c.in-Some.is)

pub loop-found-init : goal.loop-found-init
loop-found-init c =
    (omega arith, rw (split_whole c.args.stream.now))

pub loop-found-smaller : goal.loop-found-smaller
loop-found-smaller c =
    let t = passed (goal.at.loop-found-smaller c).In-Some in omega arith

pub loop-found-preserved : goal.loop-found-preserved
loop-found-preserved c =
    let t = passed (goal.at.loop-found-preserved c).In-Some in
    (omega arith, passed_next _ _ _ _ t c.loop-found.left c.if-left-eq0.false ∙ c.loop-found.invariant.1)

pub returns-then-left-eq0 : goal.returns-then-left-eq0
returns-then-left-eq0 c =
    let t = passed (goal.at.returns-then-left-eq0 c).In-Some in
    (passed_here _ _ _ _ t c.loop-found.left (omega arith) ∙ c.loop-found.invariant.1, omega arith)

pub returns : goal.returns
returns c =
    let s = c.args.stream.now in
    let e = next_ended s c.loop-found.at c.next_unit.result c.next_unit.ensures (c.in_ok-found.was ∙ ap Ok c.in_default.is) in
    (place_past (stream_left s c.loop-found.at) c.loop-found.left 0 (ap count_found e) (omega arith) ∙ c.loop-found.invariant.1, tt)
