-- Internal: the units of a compact record measured and stored as a unit list.
use Rattle.std.specs.Prelude.{ℕ, ◌+◌, ◌%◌, ◌^◌, ◌≤◌, ◌≡◌, List, [], map, length, get_or, Result, Ok, Err}
use Rattle.error.specs.Refusals.{number_of}
use Rattle.error.specs.declared.Refusal.{Refusal}
use Rattle.parse.specs.Outcome.{Outcome, accept, refuse}
use Rattle.parse.specs.Parse.{value}
use Rattle.boxes.specs.Parts.{held}
use Rattle.boxes.specs.declared.Span.{Span}
use Rattle.compact.specs.Compact.{one_array, parse_compact}
use Rattle.compact.specs.inner.Units.{record_units}
use Rattle.counted_units.specs.inner.Counted.{units_in_list}
use Rattle.compact_read.specs.declared.record_units.RecordRoom.{RecordRoom}

-- a record that was measured: its units, the place after them, and the bytes that they take in a list
pub record RoomRead (s : List ℕ) (count room : ℕ) : Type 0 where
  pub lent : length s ≤ 2 ^ 30
  pub some : 1 ≤ length s
  pub counted : count ≡ get_or s 0 0 % 32 + 2
  pub units : List Span
  pub after : ℕ
  pub read : record_units s count ≡ value units after
  pub end : length s ≤ after
  pub long : room ≡ length (units_in_list s units)
  pub few : room ≤ 2 ^ 32

-- what measuring a record says. Refusals: 23, 1, 7
abbrev pub RoomSays : List ℕ → Result RecordRoom Refusal → Type 0
RoomSays s (Ok m) = RoomRead s m.count m.room
RoomSays s (Err e) = parse_compact s ≡ refuse (number_of e)

-- the list of units that were found; empty on a refusal
abbrev pub found_list : List ℕ → Outcome (List Span) → List ℕ
found_list s (accept us) = one_array (map (held s) us)
found_list s (refuse e) = []
