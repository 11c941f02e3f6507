-- `still_record` reads the compact record into a local array that is long enough, and writes the full record of the result.
use mathlib.Core.Path.{sym, ◌∙◌}
use native.Mathlib.Omega.{arith}
use Rattle.parse.proofs.PassedOn.{passed_output}
use Rattle.parse.proofs.Output.{written_refused}
use Rattle.boxes.specs.Bytes.{AllBytes}
use Rattle.still.specs.Stills.{still_record}
use Rattle.still.proofs.LocalArrays.{Read, was_read, not_read, given_as, record_read_lem, record_unread}
use Rattle.still_record.proofs.still_record.Goals as goal
use Rattle.still_record.proofs.still_record.Goals.{In_ok-read}

read : (c : In_ok-read) → AllBytes c.args.«record».now → Read c.args.«record».now c.in_ok-read.read c.parse.new.out
read c all = was_read _ all _ c.parse.result _ c.parse.ensures (omega arith) _ c.in_ok-read.was

pub slice_bounds-list-end : goal.slice_bounds-list-end
slice_bounds-list-end c = (read (goal.at.slice_bounds-list-end c).In_ok-read (λ i. omega (arith, c.type_inv.«record» i))).within

pub slice_bounds-put_still-end : goal.slice_bounds-put_still-end
slice_bounds-put_still-end c =
    sym (read (goal.at.slice_bounds-put_still-end c).In_ok-read (λ i. omega (arith, c.type_inv.«record» i))).long

pub put_still-requires : goal.put_still-requires
put_still-requires c = (read (goal.at.put_still-requires c).In_ok-read (λ i. omega (arith, c.type_inv.«record» i))).from

pub returns : goal.returns
returns c =
    let x = read (goal.at.returns c).In_ok-read (λ i. omega (arith, c.type_inv.«record» i)) in
    given_as _ _ _ _ (record_read_lem _ _ _ _ x.given) c.put_still.ensures

pub returns-in_err-read : goal.returns-in_err-read
returns-in_err-read c =
    let a = c.args in
    passed_output c.from_residual.result _ c.from_residual.ensures.1 a.out.now
    ∙ written_refused (still_record a.«record».now a.picture) a.out.now _
    (record_unread a.«record».now a.picture _
    (not_read a.«record».now (λ i. omega (arith, c.type_inv.«record» i)) _ c.parse.result _ c.parse.ensures (omega arith) _ c.in_err-read.was))
