-- Two lists with the same arrays, one of each version: three arrays; the second has the reserved bit and an empty unit, the third no unit.
use mathlib.Core.Path.{◌≡◌, refl}
use mathlib.Core.List.{List, [], ◌∷◌}
use Prim.Native.Nat.{ℕ}
use Rattle.parse.specs.Outcome.{accept, refuse}
use Rattle.parse.specs.Parse.{many, many_up_to}
use Rattle.boxes.specs.Bytes.{be, to_be, uint, bytes, chunk, to_chunk, inside}
use Rattle.unit_list.specs.UnitList.{array_rest, array, unit_list, decode, encode_units, encode_array, encode_arrays, units_fit, lengths_fit}
use Rattle.narrow.specs.Narrow.{narrowed, widened}

abbrev pub wide : List ℕ
wide =
    0x01 ∷ 0x00 ∷ 0x00 ∷ 0x00 ∷ 0x09 ∷ 0x01 ∷ 0x0f ∷ 0x00 ∷ 0x00 ∷ 0x00 ∷ 0x03 ∷ 0x00 ∷ 0x79 ∷ 0xff
    ∷ 0x00 ∷ 0x00 ∷ 0x00 ∷ 0x0c ∷ 0x02 ∷ 0x3f ∷ 0x00 ∷ 0x00 ∷ 0x00 ∷ 0x00 ∷ 0x00 ∷ 0x00 ∷ 0x00 ∷ 0x02 ∷ 0x00 ∷ 0x81
    ∷ 0x00 ∷ 0x00 ∷ 0x00 ∷ 0x02 ∷ 0x00 ∷ 0x00 ∷ []

abbrev pub narrow : List ℕ
narrow =
    0x02 ∷ 0x00 ∷ 0x07 ∷ 0x01 ∷ 0x0f ∷ 0x00 ∷ 0x03 ∷ 0x00 ∷ 0x79 ∷ 0xff
    ∷ 0x00 ∷ 0x08 ∷ 0x02 ∷ 0x3f ∷ 0x00 ∷ 0x00 ∷ 0x00 ∷ 0x02 ∷ 0x00 ∷ 0x81
    ∷ 0x00 ∷ 0x02 ∷ 0x00 ∷ 0x00 ∷ []

pub record Lists : Type 0 where
  pub narrowed_wide : narrowed wide ≡ accept narrow
  pub widened_narrow : widened narrow ≡ accept wide
  pub narrowed_narrow : narrowed narrow ≡ accept narrow
  pub widened_wide : widened wide ≡ accept wide
  -- another version, a length that goes past the end, no byte
  pub version : narrowed (0x03 ∷ []) ≡ refuse 21
  pub cut : widened (0x02 ∷ 0x00 ∷ 0x03 ∷ 0x01 ∷ 0x0f ∷ []) ≡ refuse 21
  pub empty : widened [] ≡ refuse 21

pub lists : Lists
unfolding many many_up_to be to_be uint bytes chunk to_chunk inside array_rest array unit_list decode encode_units encode_array encode_arrays
    units_fit lengths_fit
lists = record {
  narrowed_wide = refl;
  widened_narrow = refl;
  narrowed_narrow = refl;
  widened_wide = refl;
  version = refl;
  cut = refl;
  empty = refl;
}
