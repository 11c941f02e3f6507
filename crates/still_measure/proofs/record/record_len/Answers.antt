-- `record_len` expands into a local array that is long enough, and measures the record of the result.
use native.Mathlib.Omega.{arith}
use mathlib.Core.Path.{sym, ◌∙◌}
use Rattle.parse.proofs.PassedOn.{passed_answer}
use Rattle.still.specs.inner.Steps.{record_from}
use Rattle.still.proofs.LocalArrays.{WasExpanded, was_expanded, not_expanded, counted_as, counted_refused, record_expanded, record_unexpanded}
use Rattle.still_measure.proofs.record.record_len.Goals as goal
use Rattle.still_measure.proofs.record.record_len.Goals.{In_ok-expanded}

expanded : (c : In_ok-expanded) → WasExpanded c.args.config c.args.picture c.args.list.now c.in_ok-expanded.expanded c.to_full.new.out
expanded c = was_expanded _ _ _ c.requires _ c.to_full.result _ c.to_full.ensures (omega arith) _ c.in_ok-expanded.was

pub slice_bounds-grouped-end : goal.slice_bounds-grouped-end
slice_bounds-grouped-end c =
    (expanded (goal.at.slice_bounds-grouped-end c).In_ok-expanded).within

pub slice_bounds-record_len-end : goal.slice_bounds-record_len-end
slice_bounds-record_len-end c =
    sym (expanded (goal.at.slice_bounds-record_len-end c).In_ok-expanded).long

pub returns : goal.returns
returns c =
    counted_as _ _ _ (record_expanded _ _ _ _ _ (expanded (goal.at.returns c).In_ok-expanded).given) c.record_len.ensures

pub returns-in_err-expanded : goal.returns-in_err-expanded
returns-in_err-expanded c =
    let a = c.args in
    let p = c.requires in
    passed_answer c.from_residual.result _ c.from_residual.ensures.1
    ∙ counted_refused (record_from a.config a.picture a.list.now) _
    (record_unexpanded a.config a.picture a.list.now _
    (not_expanded a.config a.picture a.list.now p _ c.to_full.result _ c.to_full.ensures (omega arith) _ c.in_err-expanded.was))
