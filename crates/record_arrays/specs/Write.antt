-- The arrays of a full record written, and whether they fit their fields: VVC's (SCOPE 3.9; ISO/IEC 14496-15:2024 11.2.4.2) and HEVC's (SCOPE 4.11;
-- 8.3.3.1).
use Rattle.std.specs.Prelude.{ℕ, ◌+◌, ◌*◌, Bool, true, ◌&&◌, List, [], ◌∷◌, ◌++◌, leb, eqb, length, if◌then◌else◌}
use Rattle.boxes.specs.Bytes.{to_be}
use Rattle.unit_list.specs.UnitList.{Array, encode_units, units_fit}
use Rattle.record_arrays.specs.Read.{holds_one}
use Rattle.record_arrays.specs.declared.Codec.{Codec}
use Rattle.record_arrays.specs.declared.Codec.TheVariants.{Vvc, Hevc}

-- HEVC: array_completeness 1, reserved 1, NAL_unit_type 6. VVC: array_completeness 1, 00, NAL_unit_type 5; an array that fits has no
-- reserved bit and a type of 5 bits
abbrev pub first_byte : Array (List ℕ) → ℕ
first_byte a = a.complete * 128 + a.reserved_bit * 64 + a.unit_type

-- the first byte; num_nalus 16, absent for VVC's types 12 and 13; then each unit after a length of 16 bits
unfoldable pub array_bytes : Codec → Array (List ℕ) → List ℕ
array_bytes c a =
    (first_byte a ∷ [])
    ++ (if holds_one c a.unit_type then [] else to_be 2 (length a.units))
    ++ encode_units 2 a.units

-- the bytes of arrays, one after the other
unfoldable pub arrays_bytes : Codec → List (Array (List ℕ)) → List ℕ
arrays_bytes c [] = []
arrays_bytes c (a ∷ xs) = array_bytes c a ++ arrays_bytes c xs

-- a reserved bit r and a type t fit the first byte: VVC's has no place for the bit and 5 bits for the type; HEVC's has the places of a unit list
abbrev pub first_fits : Codec → ℕ → ℕ → Bool
first_fits Vvc r t = eqb r 0 && leb t 31
first_fits Hevc r t = true

-- at most 65,535 units, none above 65,535 bytes, exactly one unit for VVC's types 12 and 13, and a first byte that fits
unfoldable pub array_fits : Codec → Array (List ℕ) → Bool
array_fits c a =
    leb (length a.units) 65535 && (units_fit a.units
    && ((if holds_one c a.unit_type then eqb (length a.units) 1 else true) && first_fits c a.reserved_bit a.unit_type))

-- every array fits its fields
unfoldable pub arrays_fit : Codec → List (Array (List ℕ)) → Bool
arrays_fit c [] = true
arrays_fit c (a ∷ xs) = array_fits c a && arrays_fit c xs
