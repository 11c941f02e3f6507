-- `still_stream` refuses an input that is too long, reads the compact record into a local array that is long enough, and writes the stream of the
-- result.
use native.Mathlib.Omega.{arith}
use mathlib.Core.Path.{sym, ◌∙◌}
use Rattle.parse.proofs.PassedOn.{passed_output}
use Rattle.parse.proofs.Output.{written_refused}
use Rattle.boxes.specs.Bytes.{AllBytes}
use Rattle.still.specs.Stills.{still_stream}
use Rattle.still.proofs.LocalArrays.{Read, was_read, not_read, given_as, stream_too_long, stream_read, stream_unread}
use Rattle.still_stream.proofs.still_stream.Goals as goal
use Rattle.still_stream.proofs.still_stream.Goals.{In_ok-read}

read : (c : In_ok-read) → AllBytes c.args.«record».now → Read c.args.«record».now c.in_ok-read.read c.parse.new.out
read c all = was_read _ all _ c.parse.result _ c.parse.ensures (omega arith) _ c.in_ok-read.was

pub returns-then-stored-gt-LARGEST_INPUT : goal.returns-then-stored-gt-LARGEST_INPUT
returns-then-stored-gt-LARGEST_INPUT c =
    let a = c.args in
    written_refused (still_stream a.codes a.«record».now a.stored.now a.tols) a.out.now 23
    (stream_too_long a.codes a.«record».now a.stored.now a.tols c.if-stored-gt-LARGEST_INPUT.true)

pub slice_bounds-list-end : goal.slice_bounds-list-end
slice_bounds-list-end c = (read (goal.at.slice_bounds-list-end c).In_ok-read (λ i. omega (arith, c.type_inv.«record» i))).within

pub slice_bounds-listed-end : goal.slice_bounds-listed-end
slice_bounds-listed-end c =
    sym (read (goal.at.slice_bounds-listed-end c).In_ok-read (λ i. omega (arith, c.type_inv.«record» i))).long

pub put_stream-requires : goal.put_stream-requires
put_stream-requires c =
    let x = read (goal.at.put_stream-requires c).In_ok-read (λ i. omega (arith, c.type_inv.«record» i)) in
    (x.from, c.if-stored-gt-LARGEST_INPUT.false)

pub returns : goal.returns
returns c =
    let x = read (goal.at.returns c).In_ok-read (λ i. omega (arith, c.type_inv.«record» i)) in
    given_as _ _ _ _ (stream_read _ _ _ _ c.if-stored-gt-LARGEST_INPUT.false _ _ x.given) c.put_stream.ensures

pub returns-in_err-read : goal.returns-in_err-read
returns-in_err-read c =
    let a = c.args in
    passed_output c.from_residual.result _ c.from_residual.ensures.1 a.out.now
    ∙ written_refused (still_stream a.codes a.«record».now a.stored.now a.tols) a.out.now _
    (stream_unread a.codes a.«record».now a.stored.now a.tols (omega arith) _
    (not_read a.«record».now (λ i. omega (arith, c.type_inv.«record» i)) _ c.parse.result _ c.parse.ensures (omega arith) _ c.in_err-read.was))
