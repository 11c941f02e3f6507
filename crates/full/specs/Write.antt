-- The full record written (SCOPE 3.9; ISO/IEC 14496-15:2024 11.2.4.2). Reserved bits are those of the standard.
use Rattle.std.specs.Prelude.{ℕ, ◌+◌, ◌-◌, ◌*◌, Bool, true, ◌&&◌, not, List, [], ◌∷◌, ◌++◌, leb, eqb, length, if◌then◌else◌}
use Rattle.parse.specs.Logic.{bit}
use Rattle.parse.specs.Outcome.{Outcome, accept, refuse, and_then}
use Rattle.boxes.specs.Bytes.{to_be, outside}
use Rattle.unit_list.specs.UnitList.{Array, decode, held_arrays}
use Rattle.ptl_record.specs.Write.{ptl_bytes, ptl_fits}
use Rattle.record_arrays.specs.Write.{arrays_bytes, arrays_fit}
use Rattle.record_arrays.specs.declared.Codec.TheVariants.{Vvc}
use Rattle.full.specs.declared.VvcConfig.{VvcConfig}

-- the fields under ptl_present_flag
unfoldable pub ptl_part : VvcConfig → List ℕ
ptl_part h =
    to_be 2 (h.ols_idx * 128 + h.num_sublayers * 16 + h.constant_frame_rate * 4 + h.chroma_format_idc)
    ++ ((h.bit_depth_minus8 * 32 + 31) ∷ [])  -- bit_depth_minus8 3, 11111
    ++ ptl_bytes h.native_ptl h.num_sublayers
    ++ to_be 2 h.max_picture_width
    ++ to_be 2 h.max_picture_height
    ++ to_be 2 h.avg_frame_rate

-- 11111, LengthSizeMinusOne 2, ptl_present_flag 1; then the fields under the flag if it is set
unfoldable pub head_bytes : VvcConfig → List ℕ
head_bytes h =
    ((248 + (h.length_size - 1) * 2 + bit h.ptl_present_flag) ∷ [])
    ++ (if h.ptl_present_flag then ptl_part h else [])

-- the record: head, num_of_arrays, arrays
unfoldable pub full_bytes : VvcConfig → List (Array (List ℕ)) → List ℕ
full_bytes h xs = head_bytes h ++ (length xs ∷ []) ++ arrays_bytes Vvc xs

-- every value under ptl_present_flag fits its field
unfoldable pub ptl_part_fits : VvcConfig → Bool
ptl_part_fits h =
    leb h.ols_idx 511 && (leb h.num_sublayers 7 && (leb h.constant_frame_rate 3
    && (leb h.chroma_format_idc 3 && (leb h.bit_depth_minus8 7 && ptl_fits h.native_ptl))))

-- the prefix size is 1 to 4, and with the PTL flag the values under it fit; without it they are not tested
unfoldable pub head_fits : VvcConfig → Bool
head_fits h = not (outside h.length_size) && (if h.ptl_present_flag then ptl_part_fits h else true)

-- every value fits its field, and there are at most 255 arrays; else 22
unfoldable pub record_fits : VvcConfig → List (Array (List ℕ)) → Bool
record_fits h xs = head_fits h && (leb (length xs) 255 && arrays_fit Vvc xs)

-- the record of a head and arrays. Refusals: 3, 22
unfoldable pub write_full : VvcConfig → List (Array (List ℕ)) → Outcome (List ℕ)
write_full h xs =
    if eqb h.length_size 3 then refuse 3
    else if record_fits h xs then accept (full_bytes h xs)
    else refuse 22

-- `full_write::serialize`. Refusals: 23, 21, 3, 22; with an output 20
unfoldable pub serialize_full : VvcConfig → List ℕ → Outcome (List ℕ)
serialize_full h list = and_then (decode list) (λ xs. write_full h (held_arrays list xs))
