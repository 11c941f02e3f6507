-- `input_stream` takes the input apart and returns the stream of its still.
use Prim.Native.Nat.{◌+◌, ◌≤◌}
use mathlib.Core.Path.{sym, ap, ◌∙◌}
use native.Mathlib.Omega.{arith}
use lib.ListN.{length}
use Rattle.parse.proofs.Output.{written_refused}
use Rattle.boxes.specs.inner.Chunks.{chunk_stepped}
use Rattle.still.proofs.LocalArrays.{given_as}
use Rattle.still_input.specs.Input.{input_stream}
use Rattle.still_input.proofs.Inputs.{input_too_long, inside, input_cut, input_given}
use Rattle.still_input.proofs.input_stream.Goals as goal
use Rattle.still_input.proofs.input_stream.Goals.{In-Some}

fits : (c : In-Some) → c.in-Some.a.start + c.in-Some.a.len ≤ length c.args.input.now
fits c = inside c.args.input.now c.in-Some.a (sym (ap chunk_stepped c.in-Some.is) ∙ c.chunk.ensures)

pub returns-then-input-gt-LONGEST : goal.returns-then-input-gt-LONGEST
returns-then-input-gt-LONGEST c =
    let a = c.args in
    written_refused (input_stream a.input.now) a.out.now 23 (input_too_long a.input.now c.if-input-gt-LONGEST.true)

pub returns-in_default : goal.returns-in_default
returns-in_default c =
    let a = c.args in
    written_refused (input_stream a.input.now) a.out.now 1
    (input_cut a.input.now c.if-input-gt-LONGEST.false
    (sym (ap chunk_stepped c.in_default.is) ∙ c.chunk.ensures))

pub overflow_add-after : goal.overflow_add-after
overflow_add-after c = let h = fits (goal.at.overflow_add-after c).In-Some in omega (arith, c.if-input-gt-LONGEST.false)

pub part-requires : goal.part-requires
part-requires c = fits (goal.at.part-requires c).In-Some

pub slice_bounds-still_stream-count : goal.slice_bounds-still_stream-count
slice_bounds-still_stream-count c = let h = fits (goal.at.slice_bounds-still_stream-count c).In-Some in omega arith

pub slice_bounds-still_stream-start : goal.slice_bounds-still_stream-start
slice_bounds-still_stream-start c = let h = fits (goal.at.slice_bounds-still_stream-start c).In-Some in omega arith

pub returns : goal.returns
returns c =
    given_as _ _ _ _
    (input_given _ c.if-input-gt-LONGEST.false c.in-Some.a _ c.part.ensures.holds
    (sym (ap chunk_stepped c.in-Some.is) ∙ c.chunk.ensures))
    c.still_stream.ensures
