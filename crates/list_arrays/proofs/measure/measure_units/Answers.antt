-- `measure_units` measures the units that are left of an array. Invariant: those measured and those left are the whole.
use mathlib.Core.Path.{ap, ◌∙◌}
use Rattle.std.specs.Prelude.{Ok}
use Rattle.unit_list.specs.inner.Walks.{with_next}
use Rattle.unit_list.proofs.Turns.{in_array_said}
use Rattle.list_arrays.proofs.Measures.{units_ended, units_again}
use Rattle.list_arrays.proofs.measure.measure_units.Goals as goal

pub loop-unit-preserved : goal.loop-unit-preserved
loop-unit-preserved c =
    let w = c.args.walk in
    let n = c.next_in_array in
    let l = c.loop-unit in (
      n.ensures.same ∙ l.invariant.0,
      rw (c.add-sum.ensures, c.of_unit.ensures)
          (units_again c.args.width.bytes w.list.now w.cursor l.walk.cursor l.sum l.invariant.1 (with_next n.new.self.cursor n.result)
          (in_array_said w.list l.walk n.new.self l.invariant.0 n.result n.ensures.steps) _ n.new.self.cursor
          (ap (with_next n.new.self.cursor) (c.in_ok-unit.was ∙ ap Ok c.in-Some.is)) c.args.width.small),
    )

pub returns : goal.returns
returns c =
    let w = c.args.walk in
    let n = c.next_in_array in
    let l = c.loop-unit in
    units_ended c.args.width.bytes w.list.now w.cursor l.walk.cursor l.sum l.invariant.1 (with_next n.new.self.cursor n.result)
    (in_array_said w.list l.walk n.new.self l.invariant.0 n.result n.ensures.steps)
    (ap (with_next n.new.self.cursor) (c.in_ok-unit.was ∙ ap Ok c.in_default.is))
