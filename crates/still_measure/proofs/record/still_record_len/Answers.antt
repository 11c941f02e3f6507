-- `still_record_len` reads the compact record into a local array that is long enough, and measures the full record of the result.
use native.Mathlib.Omega.{arith}
use mathlib.Core.Path.{sym, ◌∙◌}
use Rattle.parse.proofs.PassedOn.{passed_answer}
use Rattle.boxes.specs.Bytes.{AllBytes}
use Rattle.still.specs.Stills.{still_record}
use Rattle.still.proofs.LocalArrays.{Read, was_read, not_read, counted_as, counted_refused, record_read_lem, record_unread}
use Rattle.still_measure.proofs.record.still_record_len.Goals as goal
use Rattle.still_measure.proofs.record.still_record_len.Goals.{In_ok-read}

read : (c : In_ok-read) → AllBytes c.args.«record».now → Read c.args.«record».now c.in_ok-read.read c.parse.new.out
read c all = was_read _ all _ c.parse.result _ c.parse.ensures (omega arith) _ c.in_ok-read.was

pub slice_bounds-list-end : goal.slice_bounds-list-end
slice_bounds-list-end c =
    (read (goal.at.slice_bounds-list-end c).In_ok-read (λ i. omega (arith, c.type_inv.«record» i))).within

pub slice_bounds-record_len-end : goal.slice_bounds-record_len-end
slice_bounds-record_len-end c =
    sym (read (goal.at.slice_bounds-record_len-end c).In_ok-read (λ i. omega (arith, c.type_inv.«record» i))).long

pub record_len-requires : goal.record_len-requires
record_len-requires c =
    (read (goal.at.record_len-requires c).In_ok-read (λ i. omega (arith, c.type_inv.«record» i))).from

pub returns : goal.returns
returns c =
    counted_as _ _ _ (record_read_lem _ _ _ _ (read (goal.at.returns c).In_ok-read (λ i. omega (arith, c.type_inv.«record» i))).given) c.record_len.ensures

pub returns-in_err-read : goal.returns-in_err-read
returns-in_err-read c =
    let a = c.args in
    passed_answer c.from_residual.result _ c.from_residual.ensures.1
    ∙ counted_refused (still_record a.«record».now a.picture) _
    (record_unread a.«record».now a.picture _
    (not_read a.«record».now (λ i. omega (arith, c.type_inv.«record» i)) _ c.parse.result _ c.parse.ensures (omega arith) _
    c.in_err-read.was))
