-- `put_stream` expands into a local array that is long enough, and writes the stream of the result.
use native.Mathlib.Omega.{arith}
use mathlib.Core.Path.{sym, ◌∙◌}
use Rattle.parse.proofs.PassedOn.{passed_output}
use Rattle.parse.proofs.Output.{written_refused}
use Rattle.still.specs.Stills.{any_picture}
use Rattle.still.specs.inner.Steps.{stream_from}
use Rattle.still.proofs.LocalArrays.{WasExpanded, was_expanded, not_expanded, given_as, stream_expanded_lem, stream_unexpanded}
use Rattle.still_stream.proofs.put_stream.Goals as goal
use Rattle.still_stream.proofs.put_stream.Goals.{In_ok-expanded}

expanded : (c : In_ok-expanded) → WasExpanded c.args.config any_picture c.args.list.now c.in_ok-expanded.expanded c.to_full.new.out
expanded c = was_expanded _ any_picture _ c.requires.0 _ c.to_full.result _ c.to_full.ensures (omega arith) _ c.in_ok-expanded.was

pub slice_bounds-grouped-end : goal.slice_bounds-grouped-end
slice_bounds-grouped-end c = (expanded (goal.at.slice_bounds-grouped-end c).In_ok-expanded).within

pub slice_bounds-listed-end : goal.slice_bounds-listed-end
slice_bounds-listed-end c = sym (expanded (goal.at.slice_bounds-listed-end c).In_ok-expanded).long

pub put_expanded-requires : goal.put_expanded-requires
put_expanded-requires c =
    let x = expanded (goal.at.put_expanded-requires c).In_ok-expanded in
    (x.expanded_from (omega arith) (omega arith), c.requires.1)

pub returns : goal.returns
returns c =
    let x = expanded (goal.at.returns c).In_ok-expanded in
    given_as _ _ _ _ (stream_expanded_lem _ _ _ _ _ _ _ x.given) c.put_expanded.ensures

pub returns-in_err-expanded : goal.returns-in_err-expanded
returns-in_err-expanded c =
    let a = c.args in
    passed_output c.from_residual.result _ c.from_residual.ensures.1 a.out.now
    ∙ written_refused (stream_from a.codes a.config a.list.now a.stored.now a.tols) a.out.now _
    (stream_unexpanded a.codes a.config a.list.now a.stored.now a.tols _
    (not_expanded a.config any_picture a.list.now c.requires.0 _ c.to_full.result _ c.to_full.ensures (omega arith) _ c.in_err-expanded.was))
