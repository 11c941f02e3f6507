-- `units::put_units` stores the units. Invariant: those stored and those left are the whole.
use Prim.Native.Nat.{◌+◌, ◌-◌, ◌≤◌}
use native.Mathlib.Omega.{arith}
use lib.ListN.{length}
use Rattle.boxes.specs.Bytes.{chunk}
use Rattle.counted_units.specs.inner.Counted.{units_in_list}
use Rattle.counted_units.proofs.Repeated.{storing_done, storing_not_short, storing_next, storing_room}
use Rattle.counted_units.proofs.UnitsInList.{unit_in_list, units_none, units_more, UnitAt, unit_at, unit_short}
use Rattle.counted_units.proofs.units.put_units.Goals as goal

pub returns-in_default : goal.returns-in_default
returns-in_default c =
    let short : ⊥ =
    storing_not_short (chunk _) unit_in_list units_in_list units_none units_more _ _ _ _ (c.args.count - c.loop.counter) c.loop.at c.loop.out c.loop.next c.loop.invariant.1
    (c.args.count - (c.loop.counter + 1)) (omega arith) 1
    (unit_short _ _ _ c.chunk.result c.chunk.ensures c.in_default.is) in
    absurd (short)

pub put_unit-requires : goal.put_unit-requires
put_unit-requires c =
    let found : UnitAt c.args.width c.args.«record».now c.loop.at c.in-Some.a =
    unit_at _ _ _ c.chunk.result c.chunk.ensures _ c.in-Some.is in
    let t = found in
    let h = storing_room (chunk _) unit_in_list units_in_list units_none units_more _ _ _ _ (c.args.count - c.loop.counter) c.loop.at c.loop.out c.loop.next c.loop.invariant.1
    (c.args.count - (c.loop.counter + 1)) (omega arith) _ _ t.read in
    (t.inside, omega arith, omega arith)

pub overflow_add-next-in-loop : goal.overflow_add-next-in-loop
overflow_add-next-in-loop c =
    let found : UnitAt c.args.width c.args.«record».now c.loop.at c.in-Some.a =
    unit_at _ _ _ c.chunk.result c.chunk.ensures _ c.in-Some.is in
    let room : c.loop.next + (4 + c.in-Some.a.len) ≤ length c.loop.out =
    let t = found in
    let h = storing_room (chunk _) unit_in_list units_in_list units_none units_more _ _ _ _ (c.args.count - c.loop.counter) c.loop.at c.loop.out c.loop.next c.loop.invariant.1
    (c.args.count - (c.loop.counter + 1)) (omega arith) _ _ t.read in
    omega arith in
    let h = room in omega arith

pub overflow_add-at : goal.overflow_add-at
overflow_add-at c =
    let found : UnitAt c.args.width c.args.«record».now c.loop.at c.in-Some.a =
    unit_at _ _ _ c.chunk.result c.chunk.ensures _ c.in-Some.is in
    let t = found in omega arith

pub loop-preserved : goal.loop-preserved
loop-preserved c =
    let found : UnitAt c.args.width c.args.«record».now c.loop.at c.in-Some.a =
    unit_at _ _ _ c.chunk.result c.chunk.ensures _ c.in-Some.is in
    let t = found in (
      t.inside,
      storing_next (chunk _) unit_in_list units_in_list units_none units_more _ _ _ _ (c.args.count - c.loop.counter) c.loop.at c.loop.out
          c.loop.next c.loop.invariant.1 (c.args.count - (c.loop.counter + 1)) (omega arith) _ _ t.read _
          c.put_unit.ensures _ (omega arith),
    )

pub returns : goal.returns
returns c =
    storing_done (chunk _) unit_in_list units_in_list units_none units_more _ _ _ _ (c.args.count - c.loop.counter) c.loop.at c.loop.out c.loop.next c.loop.invariant.1 (omega arith)
