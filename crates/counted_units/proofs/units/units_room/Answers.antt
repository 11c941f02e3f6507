-- `units::units_room` measures the units. Invariant: those passed and those left are the whole.
use Prim.Native.Nat.{◌+◌, ◌-◌}
use mathlib.Core.Path.{sym, ap, ◌∙◌}
use native.Mathlib.Omega.{arith}
use Rattle.boxes.specs.Bytes.{chunk}
use Rattle.counted_units.specs.inner.Counted.{units_in_list, room_taken}
use Rattle.counted_units.proofs.Repeated.{times_refused, room_next, room_done}
use Rattle.counted_units.proofs.UnitsInList.{unit_in_list, units_none, units_more, UnitAt, unit_at, unit_short}
use Rattle.counted_units.proofs.units.units_room.Goals as goal

pub returns-in_err-a : goal.returns-in_err-a
returns-in_err-a c =
    let s = c.args.«record».now in
    let w = c.args.width in
    let left = c.args.count - c.loop.counter in
    let e = unit_short w s c.loop.at c.chunk.result c.chunk.ensures c.in_err-a.was in
    rw c.from_residual.ensures (
      sym (ap (room_taken units_in_list s c.loop.room) (times_refused (chunk w) unit_in_list units_in_list units_none units_more s left
          c.loop.at (c.args.count - (c.loop.counter + 1)) (omega arith) 1 e)) ∙ c.loop.invariant.2,
      tt,
    )

pub overflow_add-room-in-loop : goal.overflow_add-room-in-loop
overflow_add-room-in-loop c =
    let found : UnitAt c.args.width c.args.«record».now c.loop.at c.in_ok-a.a =
    unit_at _ _ _ c.chunk.result c.chunk.ensures _ c.in_ok-a.was in
    let t = found in omega arith

pub overflow_add-at : goal.overflow_add-at
overflow_add-at c =
    let found : UnitAt c.args.width c.args.«record».now c.loop.at c.in_ok-a.a =
    unit_at _ _ _ c.chunk.result c.chunk.ensures _ c.in_ok-a.was in
    let t = found in omega arith

pub loop-preserved : goal.loop-preserved
loop-preserved c =
    let found : UnitAt c.args.width c.args.«record».now c.loop.at c.in_ok-a.a =
    unit_at _ _ _ c.chunk.result c.chunk.ensures _ c.in_ok-a.was in
    let t = found in (
      t.inside,
      omega arith,
      room_next (chunk _) unit_in_list units_in_list units_none units_more _ (c.args.count - c.loop.counter) c.loop.at
          (c.args.count - (c.loop.counter + 1)) (omega arith) _ _ t.read c.loop.room _ (omega arith) ∙ c.loop.invariant.2,
    )

pub returns : goal.returns
returns c = (
  sym (room_done (chunk _) unit_in_list units_in_list units_none units_more _ c.loop.room (c.args.count - c.loop.counter) c.loop.at (omega arith)) ∙ c.loop.invariant.2,
  (omega arith, omega arith),
)
