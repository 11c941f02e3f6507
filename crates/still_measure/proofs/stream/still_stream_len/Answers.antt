-- `still_stream_len` refuses an input that is too long, reads the compact record into a local array that is long enough, and measures the stream of
-- the result.
use native.Mathlib.Omega.{arith}
use mathlib.Core.Path.{sym, ◌∙◌}
use Rattle.parse.proofs.PassedOn.{passed_answer}
use Rattle.boxes.specs.Bytes.{AllBytes}
use Rattle.still.specs.Stills.{still_stream}
use Rattle.still.proofs.LocalArrays.{Read, was_read, not_read, counted_as, counted_refused, stream_too_long, stream_read, stream_unread}
use Rattle.still_measure.proofs.stream.still_stream_len.Goals as goal
use Rattle.still_measure.proofs.stream.still_stream_len.Goals.{In_ok-read}

read : (c : In_ok-read) → AllBytes c.args.«record».now → Read c.args.«record».now c.in_ok-read.read c.parse.new.out
read c all = was_read _ all _ c.parse.result _ c.parse.ensures (omega arith) _ c.in_ok-read.was

pub returns-then-stored-gt-LARGEST_INPUT : goal.returns-then-stored-gt-LARGEST_INPUT
returns-then-stored-gt-LARGEST_INPUT c =
    let a = c.args in
    counted_refused (still_stream a.codes a.«record».now a.stored.now a.tols) 23
    (stream_too_long a.codes a.«record».now a.stored.now a.tols c.if-stored-gt-LARGEST_INPUT.true)

pub slice_bounds-list-end : goal.slice_bounds-list-end
slice_bounds-list-end c =
    (read (goal.at.slice_bounds-list-end c).In_ok-read (λ i. omega (arith, c.type_inv.«record» i))).within

pub slice_bounds-stream_len-end : goal.slice_bounds-stream_len-end
slice_bounds-stream_len-end c =
    sym (read (goal.at.slice_bounds-stream_len-end c).In_ok-read (λ i. omega (arith, c.type_inv.«record» i))).long

pub stream_len-requires : goal.stream_len-requires
stream_len-requires c =
    ((read (goal.at.stream_len-requires c).In_ok-read (λ i. omega (arith, c.type_inv.«record» i))).from, c.if-stored-gt-LARGEST_INPUT.false)

pub returns : goal.returns
returns c =
    counted_as _ _ _
    (stream_read _ _ _ _ c.if-stored-gt-LARGEST_INPUT.false _ _ (read (goal.at.returns c).In_ok-read (λ i. omega (arith, c.type_inv.«record» i))).given)
    c.stream_len.ensures

pub returns-in_err-read : goal.returns-in_err-read
returns-in_err-read c =
    let a = c.args in
    passed_answer c.from_residual.result _ c.from_residual.ensures.1
    ∙ counted_refused (still_stream a.codes a.«record».now a.stored.now a.tols) _
    (stream_unread a.codes a.«record».now a.stored.now a.tols c.if-stored-gt-LARGEST_INPUT.false _
    (not_read a.«record».now (λ i. omega (arith, c.type_inv.«record» i)) _ c.parse.result _ c.parse.ensures (omega arith) _ c.in_err-read.was))
