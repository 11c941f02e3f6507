-- An array of a full record read: VVC's (SCOPE 3.10; ISO/IEC 14496-15:2024 11.2.4.2) and HEVC's (SCOPE 4.11; 8.3.3.1).
use Rattle.std.specs.Prelude.{ℕ, ◌/◌, ◌%◌, Bool, false, ◌||◌, eqb, if◌then◌else◌}
use Rattle.parse.specs.Parse.{Parser, ◌>>=◌, give, times}
use Rattle.boxes.specs.Bytes.{uint, chunk}
use Rattle.boxes.specs.declared.Span.{Span}
use Rattle.unit_list.specs.UnitList.{Array}
use Rattle.record_arrays.specs.declared.Codec.{Codec}
use Rattle.record_arrays.specs.declared.Codec.TheVariants.{Vvc, Hevc}

-- The first byte of an array. VVC: array_completeness 1, reserved 2, NAL_unit_type 5. HEVC: array_completeness 1, reserved 1, NAL_unit_type 6.
-- The reserved bit of HEVC's arrays is kept, VVC's reserved bits are ignored
abbrev pub reserved_in : Codec → ℕ → ℕ
reserved_in Vvc b = 0
reserved_in Hevc b = b / 64 % 2

abbrev pub type_in : Codec → ℕ → ℕ
type_in Vvc b = b % 32
type_in Hevc b = b % 64

-- VVC's arrays of type 12 (OPI) or 13 (DCI) have no count: they have one unit
abbrev pub holds_one : Codec → ℕ → Bool
holds_one Vvc t = eqb t 12 || eqb t 13
holds_one Hevc t = false

-- one array, with the spans of its units
unfoldable pub record_array : Codec → Parser (Array Span)
record_array c = do
  b ← uint 1  -- the first byte
  n ← if holds_one c (type_in c b) then give 1 else uint 2  -- num_nalus
  units ← times n (chunk 2)  -- nal_unit_length, nal_unit
  give (record { complete = b / 128; reserved_bit = reserved_in c b; unit_type = type_in c b; units = units })
