-- `stream::put_units` stores the units that are left of a walk. Invariant: those stored and those left are the whole.
use mathlib.Core.Path.{◌∙◌}
use Rattle.parse.proofs.PassedOn.{step_some, step_none}
use Rattle.unit_list.specs.inner.Walk.{units_left}
use Rattle.unit_list.proofs.Turns.{walk_found, walk_none}
use Rattle.access_unit_annex_b.proofs.Storing.{remaining_room, remaining_more, remaining_end}
use Rattle.access_unit_annex_b.proofs.stream.put_units.Goals as goal

pub returns : goal.returns
returns c =
    let w = c.args.walk in
    let i = c.loop-unit.invariant in
    remaining_end c.args.codes w.list.now _ _ _ _ _ _ i.1
    (walk_none w.list c.loop-unit.walk c.next_unit.new.self i.0 _ c.next_unit.ensures.steps (step_none _ _ c.unwrap_or.ensures c.in_default.is))

pub put_unit-end-requires : goal.put_unit-end-requires
put_unit-end-requires c =
    let w = c.args.walk in
    let i = c.loop-unit.invariant in
    let t = walk_found w.list c.loop-unit.walk c.next_unit.new.self i.0 _ c.next_unit.ensures.steps _ (step_some _ _ _ c.unwrap_or.ensures c.in-Some.is) in
    (t.inside, remaining_room c.args.codes w.list.now _ _ _ _ _ _ i.1 _ (units_left _ c.next_unit.new.self.cursor) t.rest)

pub loop-unit-preserved : goal.loop-unit-preserved
loop-unit-preserved c =
    let w = c.args.walk in
    let i = c.loop-unit.invariant in
    let t = walk_found w.list c.loop-unit.walk c.next_unit.new.self i.0 _ c.next_unit.ensures.steps _ (step_some _ _ _ c.unwrap_or.ensures c.in-Some.is) in
    let p = c.put_unit-end.ensures in (
      c.next_unit.ensures.same ∙ i.0,
      remaining_more c.args.codes w.list.now _ _ _ _ _ _ i.1 _ (units_left _ c.next_unit.new.self.cursor) t.rest _ _ p.0 p.1,
    )
