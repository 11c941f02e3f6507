-- `parse` reads a record and writes the list of its units, or returns the first refusal.
use Prim.Native.Nat.{◌+◌}
use mathlib.Core.Path.{refl, ap, ◌∙◌, subst}
use mathlib.Core.List.{map}
use native.Mathlib.Omega.{arith}
use lib.Seq.{sets}
use Rattle.parse.proofs.Output.{output_short, output_fits}
use Rattle.boxes.specs.Parts.{held}
use Rattle.compact.specs.Compact.{one_array, parse_compact, config_of}
use Rattle.compact.specs.inner.Units.{record_units}
use Rattle.compact.proofs.OneArray.{list_long}
use Rattle.compact.proofs.RecordRead.{parse_read}
use Rattle.compact_read.specs.inner.Room.{RoomRead, RoomSays}
use Rattle.counted_units.specs.inner.Counted.{units_in_list}
use Rattle.counted_units.proofs.Repeated.{RoomFound}
use Rattle.compact_read.proofs.RecordUnits.{measured_list}
use Rattle.compact_read.proofs.parse.Goals as goal

pub returns-then-out-list_length : goal.returns-then-out-list_length
returns-then-out-list_length c =
    let room_at : RoomRead c.args.«record».now c.in_ok-units.units.count c.in_ok-units.units.room =
    subst (RoomSays c.args.«record».now) c.in_ok-units.was c.record_room.ensures in
    let a = c.args in
    let s = a.«record».now in
    let r = room_at in
    let l = list_long (map (held s) r.units) in
    output_short (parse_compact s) a.out.now _ (one_array (map (held s) r.units))
    (parse_read s r.lent r.some _ r.counted r.units _ r.read r.end _ (7 + c.in_ok-units.units.room) refl
    (omega (arith, r.long)))
    (omega (arith, l, r.long))

pub returns : goal.returns
returns c =
    let room_at : RoomRead c.args.«record».now c.in_ok-units.units.count c.in_ok-units.units.room =
    subst (RoomSays c.args.«record».now) c.in_ok-units.was c.record_room.ensures in
    let measured_at : let a = c.args in
    RoomFound units_in_list a.«record».now (record_units a.«record».now c.in_ok-units.units.count) c.in_ok-units.units.room (room_at).after =
    let r = room_at in record { what = r.units; read = r.read; long = r.long } in
    let a = c.args in
    let s = a.«record».now in
    let r = room_at in
    let m = measured_at in
    let l = list_long (map (held s) m.what) in
    output_fits (parse_compact s) a.out.now _ (one_array (map (held s) m.what))
    (parse_read s r.lent r.some _ r.counted m.what _ m.read r.end c.config_of.result (7 + c.in_ok-units.units.room)
    (c.config_of.ensures ∙ ap config_of c.byte-first.ensures) (omega (arith, m.long)))
    _ (omega (arith, l, m.long))
    (c.put_list.ensures ∙ ap (sets a.out.now 0) (measured_list _ _ _ _ m))
