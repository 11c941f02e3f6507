-- `put_arrays` stores the arrays that are left. Invariant: those stored and those left are the whole.
use mathlib.Core.Path.{◌≡◌, ap, ◌∙◌}
use Rattle.std.specs.Prelude.{Ok, None}
use Rattle.unit_list.specs.inner.Walks.{with_next}
use Rattle.unit_list.proofs.Turns.{array_said}
use Rattle.list_arrays.proofs.Stores.{arrays_done, array_needs, arrays_again}
use Rattle.list_arrays.proofs.put.put_arrays.Goals as goal

pub returns-in_default : goal.returns-in_default
returns-in_default c =
    let a = c.args in
    let n = c.next_array in
    let l = c.loop-complete in
    let e : c.in_default.field-0 ≡ None = cc in
    arrays_done a.layout a.walk.list.now a.walk.cursor a.out.now a.to l.walk.cursor l.out l.next l.invariant.1 (with_next n.new.self.cursor n.result)
    (array_said a.walk.list l.walk n.new.self l.invariant.0 n.result n.ensures.steps)
    (ap (with_next n.new.self.cursor) (c.in_default.is ∙ ap Ok e))

pub put_array-next-requires : goal.put_array-next-requires
put_array-next-requires c =
    let a = c.args in
    let n = c.next_array in
    let l = c.loop-complete in
    let h = array_needs a.layout a.walk.list.now a.walk.cursor a.out.now a.to l.walk.cursor l.out l.next l.invariant.1 (with_next n.new.self.cursor n.result)
    (array_said a.walk.list l.walk n.new.self l.invariant.0 n.result n.ensures.steps) c.in-Ok-Some.complete n.new.self.cursor
    (ap (with_next n.new.self.cursor) (c.in-Ok-Some.is ∙ ap Ok c.in-Ok-Some.field-0-is)) in
    rw (n.ensures.same ∙ l.invariant.0) (h.0, h.1, h.3)

pub loop-complete-preserved : goal.loop-complete-preserved
loop-complete-preserved c =
    let a = c.args in
    let n = c.next_array in
    let l = c.loop-complete in (
      n.ensures.same ∙ l.invariant.0,
      arrays_again a.layout a.walk.list.now a.walk.cursor a.out.now a.to l.walk.cursor l.out l.next l.invariant.1 (with_next n.new.self.cursor n.result)
          (array_said a.walk.list l.walk n.new.self l.invariant.0 n.result n.ensures.steps) c.in-Ok-Some.complete n.new.self.cursor
          (ap (with_next n.new.self.cursor) (c.in-Ok-Some.is ∙ ap Ok c.in-Ok-Some.field-0-is))
          _ _ (rw (n.ensures.same ∙ l.invariant.0) at c.put_array-next.ensures),
    )
