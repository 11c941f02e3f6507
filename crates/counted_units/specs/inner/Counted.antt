-- Internal: units or arrays that a record counts, as those of a unit list: the bytes that they take, and what is stored.
use Rattle.std.specs.Prelude.{ℕ, ◌+◌, ◌*◌, ◌≤◌, ◌≡◌, List, length, Option, Some, None}
use Rattle.std.proofs.lemmas.List.Edits.{sets}
use Rattle.parse.specs.Parse.{Parsed, value, refused, outcome}
use Rattle.parse.specs.inner.Stores.{bytes_of}
use Rattle.boxes.specs.declared.Span.{Span}
use Rattle.unit_list.specs.UnitList.{list_width}
use Rattle.unit_list.specs.inner.Written.{unit_bytes}
use Rattle.counted_units.specs.declared.Stored.{Stored}

-- the bytes of units in a list that calls write
abbrev pub units_in_list : List ℕ → List Span → List ℕ
units_in_list s us = unit_bytes list_width s us

-- n plus the bytes that what was read takes in a list, and the place after it in the record
abbrev pub room_taken : {A : Type 0} → (List ℕ → A → List ℕ) → List ℕ → ℕ → Parsed A → Parsed ℕ
room_taken f s n (value a p) = value (n + length (f s a)) p
room_taken f s n (refused e) = refused e

-- what is measured lies in the record, and takes at most 6 bytes of the list for each byte of the record
abbrev pub RoomFits : List ℕ → ℕ → Option (ℕ × ℕ) → Type 0
RoomFits s p (Some (room, q)) = (q ≤ length s) × (p * 6 + room ≤ q * 6)
RoomFits s p None = Unit {0}

-- the bytes of what was read; empty on a refusal
abbrev pub stored_bytes : {A : Type 0} → (List ℕ → A → List ℕ) → List ℕ → Parsed A → List ℕ
stored_bytes f s x = bytes_of (f s) (outcome x)

-- the place after what was read
abbrev pub place_after : {A : Type 0} → Parsed A → ℕ
place_after (value a p) = p
place_after (refused e) = 0

-- the bytes were stored from place `start` of the output on; r has the places where reading and storing continue
pub record StoredAt {A : Type 0} (f : List ℕ → A → List ℕ) (s : List ℕ) (x : Parsed A) (out : List ℕ) (start : ℕ) (exit : List ℕ)
    (r : Stored) : Type 0 where
  pub written : exit ≡ sets out start (stored_bytes f s x)
  pub from : r.from ≡ place_after x
  pub to : r.to ≡ start + length (stored_bytes f s x)
