-- `put_still` expands into a local array that is long enough, and writes the record of the result.
use mathlib.Core.Path.{sym, ◌∙◌}
use native.Mathlib.Omega.{arith}
use Rattle.parse.proofs.PassedOn.{passed_output}
use Rattle.parse.proofs.Output.{written_refused}
use Rattle.still.specs.inner.Steps.{record_from}
use Rattle.still.proofs.LocalArrays.{WasExpanded, was_expanded, not_expanded, given_as, record_expanded, record_unexpanded}
use Rattle.still_record.proofs.put_still.Goals as goal
use Rattle.still_record.proofs.put_still.Goals.{In_ok-expanded}

expanded : (c : In_ok-expanded) → WasExpanded c.args.config c.args.picture c.args.list.now c.in_ok-expanded.expanded c.to_full.new.out
expanded c = was_expanded _ _ _ c.requires _ c.to_full.result _ c.to_full.ensures (omega arith) _ c.in_ok-expanded.was

pub slice_bounds-grouped-end : goal.slice_bounds-grouped-end
slice_bounds-grouped-end c = (expanded (goal.at.slice_bounds-grouped-end c).In_ok-expanded).within

pub slice_bounds-serialize-end : goal.slice_bounds-serialize-end
slice_bounds-serialize-end c = sym (expanded (goal.at.slice_bounds-serialize-end c).In_ok-expanded).long

pub returns : goal.returns
returns c =
    let x = expanded (goal.at.returns c).In_ok-expanded in
    given_as _ _ _ _ (record_expanded _ _ _ _ _ x.given) c.serialize.ensures

pub returns-in_err-expanded : goal.returns-in_err-expanded
returns-in_err-expanded c =
    let a = c.args in
    passed_output c.from_residual.result _ c.from_residual.ensures.1 a.out.now
    ∙ written_refused (record_from a.config a.picture a.list.now) a.out.now _
    (record_unexpanded a.config a.picture a.list.now _
    (not_expanded a.config a.picture a.list.now c.requires _ c.to_full.result _ c.to_full.ensures (omega arith) _ c.in_err-expanded.was))
