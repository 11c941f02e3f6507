-- `put_units` stores the units that are left of an array. Invariant: those stored and those left are the whole.
use Prim.Native.Nat.{◌+◌, ◌≤◌}
use mathlib.Core.Path.{◌≡◌, ap, ◌∙◌}
use lib.ListN.{length}
use Rattle.std.specs.Prelude.{Ok, None}
use Rattle.unit_list.specs.inner.Walks.{with_next}
use Rattle.unit_list.proofs.Turns.{in_array_said}
use Rattle.list_arrays.proofs.Stores.{units_done, unit_room, units_again}
use Rattle.list_arrays.proofs.put.put_units.Goals as goal

pub returns-in_default : goal.returns-in_default
returns-in_default c =
    let a = c.args in
    let n = c.next_in_array in
    let l = c.loop-unit in
    let e : c.in_default.field-0 ≡ None = cc in
    units_done a.width.bytes a.walk.list.now a.walk.cursor a.out.now a.to l.walk.cursor l.out l.at l.invariant.1 (with_next n.new.self.cursor n.result)
    (in_array_said a.walk.list l.walk n.new.self l.invariant.0 n.result n.ensures.steps)
    (ap (with_next n.new.self.cursor) (c.in_default.is ∙ ap Ok e))

pub put_unit-requires : goal.put_unit-requires
put_unit-requires c =
    let a = c.args in
    let n = c.next_in_array in
    let l = c.loop-unit in
    let h : let u = c.in-Ok-Some.unit in (u.start + u.len ≤ length a.walk.list.now) × (c.loop-unit.at + a.width.bytes + u.len ≤ length c.loop-unit.out) =
    unit_room a.width.bytes a.walk.list.now a.walk.cursor a.out.now a.to l.walk.cursor l.out l.at l.invariant.1 (with_next n.new.self.cursor n.result)
    (in_array_said a.walk.list l.walk n.new.self l.invariant.0 n.result n.ensures.steps) _ n.new.self.cursor
    (ap (with_next n.new.self.cursor) (c.in-Ok-Some.is ∙ ap Ok c.in-Ok-Some.field-0-is)) in
    (h.0, a.width.small, h.1)

pub loop-unit-preserved : goal.loop-unit-preserved
loop-unit-preserved c =
    let a = c.args in
    let n = c.next_in_array in
    let l = c.loop-unit in (
      n.ensures.same ∙ l.invariant.0,
      units_again a.width.bytes a.walk.list.now a.walk.cursor a.out.now a.to l.walk.cursor l.out l.at l.invariant.1 (with_next n.new.self.cursor n.result)
          (in_array_said a.walk.list l.walk n.new.self l.invariant.0 n.result n.ensures.steps) _ n.new.self.cursor
          (ap (with_next n.new.self.cursor) (c.in-Ok-Some.is ∙ ap Ok c.in-Ok-Some.field-0-is)) _ c.put_unit.ensures,
    )
