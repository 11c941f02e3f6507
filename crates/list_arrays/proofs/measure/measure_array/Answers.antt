-- `measure_array` measures one array: its head, then its units.
use mathlib.Core.Path.{sym, ap, ◌∙◌, subst}
use Rattle.std.specs.Prelude.{Ok}
use Rattle.parse.specs.Answers.{answer_of}
use Rattle.unit_list.specs.inner.Walks.{with_next}
use Rattle.list_arrays.specs.inner.Measures.{UnitsWithin}
use Rattle.list_arrays.proofs.Measures.{end_measured}
use Rattle.list_arrays.proofs.Measures.{array_measured_lem, array_takes}
use Rattle.list_arrays.proofs.measure.measure_array.Goals as goal

pub returns-in_default : goal.returns-in_default
returns-in_default c =
    let w = c.args.walk.now in
    let n = c.next_array in
    record {
      same = n.ensures.same;
      measures = (
        end_measured c.args.layout w.list.now w.cursor (with_next n.new.self.cursor n.result) n.ensures.steps
            (ap (with_next n.new.self.cursor) (c.in_ok-complete.was ∙ ap Ok c.in_default.is)),
        tt,
      );
    }

pub returns : goal.returns
returns c =
    let l = c.args.layout in
    let w = c.args.walk.now in
    let n = c.next_array in
    let first = n.new.self.cursor in
    let units = c.in_ok-units.units in
    let e = sym (ap answer_of c.in_ok-units.was) ∙ rw (c.unit_width.ensures, n.ensures.same) at c.measure_units.ensures.0 in
    let b = subst (UnitsWithin first) c.in_ok-units.was c.measure_units.ensures.1 in
    let step = ap (with_next first) (c.in_ok-complete.was ∙ ap Ok c.in-Some.is) in
    record {
      same = n.ensures.same;
      measures = rw c.of_array-array.ensures (
        array_measured_lem l w.list.now w.cursor (with_next first n.result) n.ensures.steps c.in-Some.complete first step units e b,
        array_takes l w.list.now w.cursor (with_next first n.result) n.ensures.steps c.in-Some.complete first step units e b,
      );
    }
