-- `put_count` stores the count of units, or nothing for a type without a count.
use mathlib.Core.Path.{sym, ap, ◌∙◌}
use native.Mathlib.Omega.{arith}
use lib.ListN.{length}
use Rattle.parse.specs.Answers.{answer_of}
use Rattle.parse.proofs.Stores.{put_room}
use Rattle.boxes.proofs.Numbers.{length_to_be}
use Rattle.unit_list.specs.inner.Walks.{left_in_array}
use Rattle.list_arrays.specs.inner.Measures.{count_bytes}
use Rattle.list_arrays.proofs.Stores.{count_two}
use Rattle.list_arrays.proofs.put.put_count.Goals as goal

pub put_number-requires : goal.put_number-requires
put_number-requires c =
    let a = c.args in
    let e = count_two a.codec a.walk.list.now a.walk.cursor.unit_type (left_in_array a.walk)
    (sym c.holds_one.ensures ∙ c.if-holds_one.false) c.in-Ok.units (sym (ap answer_of c.in-Ok.is) ∙ c.measure_units.ensures.0) in
    let l = ap length e ∙ length_to_be 2 c.in-Ok.units.count in
    let r = put_room (count_bytes a.codec a.walk.list.now a.walk.cursor.unit_type) (left_in_array a.walk) a.out.now a.to
    c.requires in
    (omega arith, omega arith)

pub returns : goal.returns
returns c =
    let a = c.args in
    let e = count_two a.codec a.walk.list.now a.walk.cursor.unit_type (left_in_array a.walk)
    (sym c.holds_one.ensures ∙ c.if-holds_one.false) c.in-Ok.units (sym (ap answer_of c.in-Ok.is) ∙ c.measure_units.ensures.0) in
    let l = ap length e ∙ length_to_be 2 c.in-Ok.units.count in
    (omega arith, rw e c.put_number.ensures)
