-- `parse_strict` returns the refusal for a rule that is broken, else what `parse` returns.
use mathlib.Core.Path.{◌≡◌, sym, ap, ◌∙◌}
use native.Mathlib.Omega.{arith}
use Rattle.parse.specs.Answers.{answer_of}
use Rattle.parse.specs.Outcome.{lent_output}
use Rattle.parse.specs.Parse.{value}
use Rattle.parse.proofs.PassedOn.{passed_on}
use Rattle.record_arrays_read.proofs.Given.{given_headless, given_refused_list, given_list, head_found, head_refused}
use Rattle.full.specs.Read.{vvc_head, parse_full}
use Rattle.full.specs.Strict.{parse_strict}
use Rattle.full_read.proofs.Given.{reads_record}
use Rattle.full_read.proofs.Strict.{small_head, rules_long, rules_headless, rules_headed, strict_refused, strict_kept}
use Rattle.full_read.proofs.parse_strict.Goals as goal
use Rattle.full_read.proofs.parse_strict.Goals.{In_ok-head, In_ok-check}

pub returns-then-record-gt-LARGEST_INPUT : goal.returns-then-record-gt-LARGEST_INPUT
returns-then-record-gt-LARGEST_INPUT c =
    c.parse.ensures ∙ strict_kept c.args.«record».now c.args.out.now (sym (rules_long c.args.«record».now (omega arith)))

pub returns-in_err-head : goal.returns-in_err-head
returns-in_err-head c =
    rw (passed_on c.from_residual.result _ c.from_residual.ensures.1)
    (given_headless (reads_record c.args.«record».now) c.args.out.now (omega arith) c.read_head.ensures c.in_err-head.was
    ∙ strict_kept c.args.«record».now c.args.out.now (sym (rules_headless _ (omega arith) _ (head_refused c.read_head.ensures c.in_err-head.was))))

-- the head is read
headed : (c : In_ok-head) → vvc_head c.args.«record».now 0 ≡ value c.in_ok-head.head c.in_ok-head.end
headed c = head_found c.read_head.ensures c.in_ok-head.was

pub check-requires : goal.check-requires
check-requires c = (omega arith, (small_head c.args.«record».now).at _ _ (headed (goal.at.check-requires c).In_ok-head))

pub returns-in_err-check : goal.returns-in_err-check
returns-in_err-check c =
    let s = c.args.«record».now in
    rw (passed_on c.from_residual-in_err-check.result _ c.from_residual-in_err-check.ensures.1)
    (strict_refused s c.args.out.now _
    (sym (rules_headed s (omega arith) _ _ (headed (goal.at.returns-in_err-check c).In_ok-head)) ∙ sym c.check.ensures ∙ ap answer_of c.in_err-check.was))

-- no rule is broken
kept : (c : In_ok-check) → lent_output (parse_full c.args.«record».now) c.args.out.now ≡ lent_output (parse_strict c.args.«record».now) c.args.out.now
kept c =
    let s = c.args.«record».now in
    strict_kept s c.args.out.now
    (sym (rules_headed s (omega arith) _ _ (head_found c.read_head.ensures c.in_ok-head.was)) ∙ sym c.check.ensures ∙ ap answer_of c.in_ok-check.was)

pub returns-in_err-consumed : goal.returns-in_err-consumed
returns-in_err-consumed c =
    rw (passed_on c.from_residual-in_err-consumed.result _ c.from_residual-in_err-consumed.ensures.1)
    (given_refused_list (reads_record c.args.«record».now) c.args.out.now (omega arith) c.read_head.ensures c.in_ok-head.was c.read_list.ensures
    c.in_err-consumed.was ∙ kept (goal.at.returns-in_err-consumed c).In_ok-check)

pub returns : goal.returns
returns c =
    given_list (reads_record c.args.«record».now) c.args.out.now (omega arith) c.read_head.ensures c.in_ok-head.was c.read_list.ensures
    c.in_ok-consumed.was ∙ kept (goal.at.returns c).In_ok-check
