-- `split_annex_b_count` counts the units of a stream. The loop's invariant: those passed and those left are all.
use mathlib.Core.Path.{sym, ap, ◌∙◌}
use native.Mathlib.Omega.{arith}
use Rattle.std.specs.Prelude.{Ok}
use Rattle.boxes.specs.Walk.{count_found}
use Rattle.boxes.proofs.Walk.{plus_zero}
use Rattle.split.proofs.Walks.{count_on}
use Rattle.annex_b.proofs.Streams.{stream_left, split_whole, passed_more, next_passed}
use Rattle.annex_b.proofs.split_annex_b_count.Goals as goal

pub loop-step-init : goal.loop-step-init
loop-step-init c =
    (omega arith, omega arith, plus_zero _ ∙ ap count_found (sym (split_whole c.args.stream.now)))

pub loop-step-smaller : goal.loop-step-smaller
loop-step-smaller c =
    let t = next_passed _ _ c.next_unit.result c.next_unit.ensures _ (c.in_ok-step.was ∙ ap Ok c.in-Some.is) in omega arith

pub loop-step-preserved : goal.loop-step-preserved
loop-step-preserved c =
    let s = c.args.stream.now in
    let t = next_passed _ _ c.next_unit.result c.next_unit.ensures _ (c.in_ok-step.was ∙ ap Ok c.in-Some.is) in (
      omega arith,
      omega arith,
      count_on _ _ (stream_left s c.loop-step.at) c.loop-step.invariant.2 _ (stream_left s _) (passed_more s _ _ _ t),
    )
