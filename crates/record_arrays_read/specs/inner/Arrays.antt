-- Internal: the arrays of a full record read into a unit list: their heads, and their bytes in a list.
use Rattle.std.specs.Prelude.{ℕ, ◌+◌, ◌/◌, ◌≤◌, List, length, if◌then◌else◌, Option, Some, None}
use Rattle.parse.specs.Outcome.{Outcome, accept, refuse}
use Rattle.parse.specs.Parse.{Parsed, value, refused, Parser, ◌>>=◌, give, times}
use Rattle.boxes.specs.Bytes.{uint}
use Rattle.boxes.specs.declared.Span.{Span}
use Rattle.unit_list.specs.UnitList.{Array, list_width, held_array, held_arrays, encode_array, encode_arrays, encode}
use Rattle.record_arrays.specs.Read.{reserved_in, type_in, holds_one, record_array}
use Rattle.record_arrays.specs.declared.Codec.{Codec}
use Rattle.record_arrays_read.specs.declared.ArrayHead.{ArrayHead}

-- num_of_arrays and the arrays
unfoldable pub counted_arrays : Codec → Parser (List (Array Span))
counted_arrays k = do
  n ← uint 1  -- num_of_arrays
  times n (record_array k)

-- what reading them returns: the place after them in the record, the length of the list, and the list
abbrev pub list_given : List ℕ → Parsed (List (Array Span)) → Outcome ((ℕ × ℕ) × List ℕ)
list_given s (value xs p) = accept ((p, length (encode (held_arrays s xs))), encode (held_arrays s xs))
list_given s (refused e) = refuse e

-- what comes before the units of an array: array_completeness, the reserved bit, NAL_unit_type and the count of units; `array_split`
-- (proofs/RecordArrays.antt) ties it to `record_array`
unfoldable pub array_head : Codec → Parser ArrayHead
array_head k = do
  b ← uint 1
  n ← if holds_one k (type_in k b) then give 1 else uint 2
  give (record { complete = b / 128; reserved_bit = reserved_in k b; unit_type = type_in k b; count = n })

-- the units of an array start after its head, and the head lies in the record; complete and the reserved bit are bits
abbrev pub ArrayHeadFits : List ℕ → ℕ → Option (ArrayHead × ℕ) → Type 0
ArrayHeadFits s p (Some (h, q)) = (p + 1 ≤ q) × (q ≤ length s) × (h.complete ≤ 1) × (h.reserved_bit ≤ 1)
ArrayHeadFits s p None = Unit {0}

-- the bytes of an array in a list that calls write, and of arrays
abbrev pub array_in_list : List ℕ → Array Span → List ℕ
array_in_list s a = encode_array list_width (held_array s a)

abbrev pub arrays_in_list : List ℕ → List (Array Span) → List ℕ
arrays_in_list s xs = encode_arrays list_width (held_arrays s xs)
