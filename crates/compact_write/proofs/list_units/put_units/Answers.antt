-- `list_units::put_units` stores the units that are left of a walk. Invariant: those stored and those left are the whole.
use Prim.Native.Nat.{◌+◌, ◌≤◌}
use mathlib.Core.Path.{◌≡◌, ap, ◌∙◌}
use native.Mathlib.Omega.{arith}
use lib.ListN.{length}
use Rattle.std.specs.Prelude.{Ok, None}
use Rattle.unit_list.specs.inner.Walk.{units_left}
use Rattle.unit_list.proofs.Turns.{walk_found, walk_end}
use Rattle.unit_list.proofs.StoredUnits.{copying_end, copying_room, copying_again}
use Rattle.compact_write.proofs.list_units.put_units.Goals as goal

pub returns-in_default : goal.returns-in_default
returns-in_default c =
    let i = c.loop-unit.invariant in
    let n : c.in_default.field-0 ≡ None = cc in
    copying_end _ _ _ _ _ _ _ _ i.1
    (walk_end c.args.walk.list c.loop-unit.walk c.next_unit.new.self i.0 _ c.next_unit.ensures.steps (c.in_default.is ∙ ap Ok n))

pub put_unit-requires : goal.put_unit-requires
put_unit-requires c =
    let i = c.loop-unit.invariant in
    let n = c.next_unit.new.self in
    let t = walk_found c.args.walk.list c.loop-unit.walk n i.0 _ c.next_unit.ensures.steps _ (c.in-Ok-Some.is ∙ ap Ok c.in-Ok-Some.field-0-is) in
    let room : c.loop-unit.at + 1 + c.in-Ok-Some.unit.len ≤ length c.loop-unit.out =
    copying_room _ _ _ _ _ _ _ _ i.1 _ t.inside (units_left _ n.cursor) t.rest in
    (t.inside, omega arith, room)

pub loop-unit-preserved : goal.loop-unit-preserved
loop-unit-preserved c =
    let i = c.loop-unit.invariant in
    let n = c.next_unit.new.self in
    let t = walk_found c.args.walk.list c.loop-unit.walk n i.0 _ c.next_unit.ensures.steps _ (c.in-Ok-Some.is ∙ ap Ok c.in-Ok-Some.field-0-is) in
    let e : c.loop-unit.at + (1 + c.in-Ok-Some.unit.len) ≡ c.loop-unit.at + 1 + c.in-Ok-Some.unit.len = omega arith in (
      c.next_unit.ensures.same ∙ i.0,
      rw e (copying_again _ _ _ _ _ _ _ _ i.1 _ t.inside (units_left _ n.cursor) t.rest _ c.put_unit.ensures),
    )
