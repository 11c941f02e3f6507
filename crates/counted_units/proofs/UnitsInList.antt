-- Laws of one unit of a record, after a length of w bytes, as a unit of a list.
use Prim.Native.Nat.{ℕ, ◌+◌, ◌≤◌}
use mathlib.Core.Path.{◌≡◌}
use mathlib.Core.List.{List, [], ◌∷◌, ◌++◌}
use lib.ListN.{length, take}
use lib.Seq.{take-length}
use Rattle.std.specs.Prelude.{Option, Some, None}
use Rattle.parse.specs.Parse.{value, refused}
use Rattle.boxes.specs.Bytes.{chunk, to_chunk}
use Rattle.boxes.specs.Parts.{held}
use Rattle.boxes.specs.inner.Chunks.{chunk_stepped}
use Rattle.boxes.specs.declared.Span.{Span}
use Rattle.boxes.proofs.Fields.{chunk_read}
use Rattle.boxes.proofs.ChunkBytes.{chunk_bytes, chunk_refused}
use Rattle.unit_list.specs.UnitList.{list_width}
use Rattle.unit_list.proofs.StoredUnits.{units_nil, units_first, unit_room}
use Rattle.counted_units.specs.inner.Counted.{units_in_list}

-- the bytes of one unit in a list
abbrev pub unit_in_list : List ℕ → Span → List ℕ
unit_in_list s a = to_chunk list_width (held s a)

pub units_none : (s : List ℕ) → units_in_list s [] ≡ []
units_none = units_nil list_width

pub units_more : (s : List ℕ) (a : Span) (us : List Span) → units_in_list s (a ∷ us) ≡ unit_in_list s a ++ units_in_list s us
units_more = units_first list_width

-- the unit that a step found
pub record UnitAt (w : ℕ) (s : List ℕ) (p : ℕ) (a : Span) : Type 0 where
  pub read : chunk w s p ≡ value a (a.start + a.len)
  pub start : a.start ≡ p + w
  pub inside : a.start + a.len ≤ length s
  pub room : length (unit_in_list s a) ≡ list_width + a.len

module _ (w : ℕ) (s : List ℕ) (p : ℕ) (r : Option Span) (said : chunk_stepped r ≡ chunk w (take (length s) s) p) where
  pub unit_short : r ≡ None → chunk w s p ≡ refused 1
  unit_short e = rw take-length at (chunk_refused r (chunk w (take (length s) s) p) said e)

  pub unit_at : (a : Span) → r ≡ Some a → UnitAt w s p a
  unit_at a e =
      let g : chunk w s p ≡ value a (a.start + a.len) = rw take-length at (chunk_bytes r (chunk w (take (length s) s) p) a said e) in
      let c = chunk_read w s p a (a.start + a.len) g in
      record { read = g; start = c.start; inside = c.fits; room = unit_room list_width s a c.fits }
