-- `record_units::record_room` measures the units of a whole record, or returns the first refusal.
use Prim.Native.Nat.{ℕ, ◌+◌, ◌%◌}
use mathlib.Core.Path.{◌≡◌, ap, ◌∙◌}
use native.Mathlib.Omega.{arith}
use lib.ListN.{get_or}
use Rattle.compact.specs.inner.Units.{record_units}
use Rattle.compact.proofs.RecordRead.{parse_too_long, parse_empty, parse_short, parse_over}
use Rattle.counted_units.specs.inner.Counted.{units_in_list, room_taken}
use Rattle.counted_units.proofs.Repeated.{RoomFound, room_found, room_refused, RoomAt, room_short, room_at}
use Rattle.compact_read.proofs.RecordUnits.{units_fit}
use Rattle.compact_read.proofs.record_units.record_room.Goals as goal

pub returns-then-record-gt-LARGEST_INPUT : goal.returns-then-record-gt-LARGEST_INPUT
returns-then-record-gt-LARGEST_INPUT c =
    parse_too_long c.args.«record».now (omega arith)

pub returns-then-is_empty : goal.returns-then-is_empty
returns-then-is_empty c =
    parse_empty c.args.«record».now (omega arith) (grind arith)

pub returns-in_default : goal.returns-in_default
returns-in_default c =
    let count_at : c.from.result % 32 + 2 ≡ get_or c.args.«record».now 0 0 % 32 + 2 =
    ap (λ (b : ℕ). b % 32 + 2) (c.from.ensures ∙ c.byte-first.ensures) in
    let s = c.args.«record».now in
    let x = record_units s (c.from.result % 32 + 2) in
    parse_short s (omega arith) (grind arith) _ (count_at) 1
    (room_refused units_in_list s x 1 (room_short s 1 (room_taken units_in_list s 0 x) c.units_room.result c.units_room.ensures c.in_default.is))

pub returns-then-after-record : goal.returns-then-after-record
returns-then-after-record c =
    let room_of : let s = c.args.«record».now in
    RoomAt s 1 (room_taken units_in_list s 0 (record_units s (c.from.result % 32 + 2))) c.in-Some.room c.in-Some.after =
    let s = c.args.«record».now in
    room_at s 1 (room_taken units_in_list s 0 (record_units s (c.from.result % 32 + 2))) c.units_room.result c.units_room.ensures _ _ c.in-Some.is in
    let measured_at : let s = c.args.«record».now in
    RoomFound units_in_list s (record_units s (c.from.result % 32 + 2)) c.in-Some.room c.in-Some.after =
    room_found units_in_list _ _ _ _ (room_of).read in
    let count_at : c.from.result % 32 + 2 ≡ get_or c.args.«record».now 0 0 % 32 + 2 =
    ap (λ (b : ℕ). b % 32 + 2) (c.from.ensures ∙ c.byte-first.ensures) in
    let s = c.args.«record».now in
    let m = measured_at in
    parse_over s (omega arith) (grind arith) _ (count_at) m.what _ m.read (omega arith)

pub returns : goal.returns
returns c =
    let s = c.args.«record».now in
    let n = c.from.result % 32 + 2 in
    let r = room_at s 1 (room_taken units_in_list s 0 (record_units s n)) c.units_room.result c.units_room.ensures _ _ c.in-Some.is in
    let m = room_found units_in_list s (record_units s n) c.in-Some.room c.in-Some.after r.read in
    let f = (units_fit s n 1).at m.what c.in-Some.after m.read in
    record {
      lent = omega arith;
      some = grind arith;
      counted = ap (λ (b : ℕ). b % 32 + 2) (c.from.ensures ∙ c.byte-first.ensures);
      units = m.what;
      after = c.in-Some.after;
      read = m.read;
      end = omega arith;
      long = m.long;
      few = omega (arith, f, m.long, r.inside);
    }
