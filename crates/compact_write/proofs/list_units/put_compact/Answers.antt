-- `list_units::put_compact` writes the record of the units after a cursor, or returns the first refusal.
use mathlib.Core.Path.{sym, ap, ◌∙◌}
use native.Mathlib.Omega.{arith}
use Rattle.parse.specs.Answers.{answer_of}
use Rattle.parse.proofs.Output.{written_refused, written_short, written_fits}
use Rattle.parse.proofs.PassedOn.{passed_on}
use Rattle.unit_list.specs.inner.Walks.{left_of}
use Rattle.compact_write.specs.inner.Sums.{compact_record_of}
use Rattle.compact_write.proofs.ListUnits.{Sum, sum_of_lem, Long, long_of, record_refused, record_given_lem, record_room_lem}
use Rattle.compact_write.proofs.list_units.put_compact.Goals as goal

pub returns-in_err-len : goal.returns-in_err-len
returns-in_err-len c =
    let a = c.args in
    let m : Sum a.walk.list.now (left_of a.walk) c.in_ok-sum.sum =
    sum_of_lem _ _ _ (sym (ap answer_of c.in_ok-sum.was) ∙ c.units_sum.ensures.0) in
    rw (passed_on c.from_residual-in_err-len.result _ c.from_residual-in_err-len.ensures.1)
    (written_refused (compact_record_of a.config a.walk.list.now (left_of a.walk)) a.out.now _
    (record_refused _ _ _ _ m _ (sym (ap answer_of c.in_err-len.was) ∙ c.record_len.ensures)))

pub returns-then-out-len : goal.returns-then-out-len
returns-then-out-len c =
    let a = c.args in
    let m : Sum a.walk.list.now (left_of a.walk) c.in_ok-sum.sum =
    sum_of_lem _ _ _ (sym (ap answer_of c.in_ok-sum.was) ∙ c.units_sum.ensures.0) in
    let n = sym (ap answer_of c.in_ok-len.was) ∙ c.record_len.ensures in
    let l : Long a.config c.in_ok-sum.sum c.in_ok-len.len = long_of _ _ _ n in
    written_short (compact_record_of a.config a.walk.list.now (left_of a.walk)) a.out.now _ (record_given_lem _ _ _ _ m _ n)
    (omega (arith, record_room_lem a.config _ _ _ m, l.long))

pub returns : goal.returns
returns c =
    let a = c.args in
    let m : Sum a.walk.list.now (left_of a.walk) c.in_ok-sum.sum =
    sum_of_lem _ _ _ (sym (ap answer_of c.in_ok-sum.was) ∙ c.units_sum.ensures.0) in
    let n = sym (ap answer_of c.in_ok-len.was) ∙ c.record_len.ensures in
    let l : Long a.config c.in_ok-sum.sum c.in_ok-len.len = long_of _ _ _ n in
    written_fits (compact_record_of a.config a.walk.list.now (left_of a.walk)) a.out.now _ (record_given_lem _ _ _ _ m _ n) _ _
    (l.long ∙ sym (record_room_lem a.config _ _ _ m)) (omega arith) c.store_record.ensures
