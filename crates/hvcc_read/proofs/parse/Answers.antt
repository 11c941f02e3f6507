-- `parse` returns what the definition says: 23, the refusals of the head, or the answer of the arrays with the head.
use native.Mathlib.Omega.{arith}
use Rattle.parse.proofs.PassedOn.{passed_on}
use Rattle.record_arrays_read.proofs.Given.{given_too_long, given_headless, given_refused_list, given_list}
use Rattle.hvcc_read.proofs.Given.{reads_record}
use Rattle.hvcc_read.proofs.parse.Goals as goal

pub returns-then-record-gt-LARGEST_INPUT : goal.returns-then-record-gt-LARGEST_INPUT
returns-then-record-gt-LARGEST_INPUT c =
    given_too_long (reads_record c.args.«record».now) c.args.out.now (omega arith)

pub returns-in_err-head : goal.returns-in_err-head
returns-in_err-head c =
    rw (passed_on c.from_residual.result _ c.from_residual.ensures.1)
    (given_headless (reads_record c.args.«record».now) c.args.out.now (omega arith) c.read_head.ensures c.in_err-head.was)

pub returns-in_err-consumed : goal.returns-in_err-consumed
returns-in_err-consumed c =
    rw (passed_on c.from_residual-in_err-consumed.result _ c.from_residual-in_err-consumed.ensures.1)
    (given_refused_list (reads_record c.args.«record».now) c.args.out.now (omega arith) c.read_head.ensures c.in_ok-head.was c.read_list.ensures
    c.in_err-consumed.was)

pub returns : goal.returns
returns c =
    given_list (reads_record c.args.«record».now) c.args.out.now (omega arith) c.read_head.ensures c.in_ok-head.was c.read_list.ensures
    c.in_ok-consumed.was
