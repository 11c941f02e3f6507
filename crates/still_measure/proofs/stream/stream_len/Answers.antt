-- `stream_len` expands into a local array that is long enough, and measures the stream of the result.
use native.Mathlib.Omega.{arith}
use mathlib.Core.Path.{sym, ◌∙◌}
use Rattle.parse.proofs.PassedOn.{passed_answer}
use Rattle.still.specs.Stills.{any_picture}
use Rattle.still.specs.inner.Steps.{stream_from}
use Rattle.still.proofs.LocalArrays.{WasExpanded, was_expanded, not_expanded, counted_as, counted_refused, stream_expanded_lem, stream_unexpanded}
use Rattle.still_measure.proofs.stream.stream_len.Goals as goal
use Rattle.still_measure.proofs.stream.stream_len.Goals.{In_ok-expanded}

expanded : (c : In_ok-expanded) → WasExpanded c.args.config any_picture c.args.list.now c.in_ok-expanded.expanded c.to_full.new.out
expanded c = was_expanded _ any_picture _ c.requires.0 _ c.to_full.result _ c.to_full.ensures (omega arith) _ c.in_ok-expanded.was

pub slice_bounds-grouped-end : goal.slice_bounds-grouped-end
slice_bounds-grouped-end c =
    (expanded (goal.at.slice_bounds-grouped-end c).In_ok-expanded).within

pub slice_bounds-listed-end : goal.slice_bounds-listed-end
slice_bounds-listed-end c =
    sym (expanded (goal.at.slice_bounds-listed-end c).In_ok-expanded).long

pub expanded_len-requires : goal.expanded_len-requires
expanded_len-requires c =
    ((expanded (goal.at.expanded_len-requires c).In_ok-expanded).expanded_from (omega arith) (omega arith), c.requires.1)

pub returns : goal.returns
returns c =
    counted_as _ _ _ (stream_expanded_lem _ _ _ _ _ _ _ (expanded (goal.at.returns c).In_ok-expanded).given) c.expanded_len.ensures

pub returns-in_err-expanded : goal.returns-in_err-expanded
returns-in_err-expanded c =
    let a = c.args in
    passed_answer c.from_residual.result _ c.from_residual.ensures.1
    ∙ counted_refused (stream_from a.codes a.config a.list.now a.stored.now a.tols) _
    (stream_unexpanded a.codes a.config a.list.now a.stored.now a.tols _
    (not_expanded a.config any_picture a.list.now c.requires.0 _ c.to_full.result _ c.to_full.ensures (omega arith) _ c.in_err-expanded.was))
