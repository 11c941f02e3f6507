-- The HEVC record written (SCOPE 4.11; ISO/IEC 14496-15 8.3.3.1). Reserved bits of the head are those of the standard.
use Rattle.std.specs.Prelude.{ℕ, ◌+◌, ◌-◌, ◌*◌, ◌^◌, Bool, ◌&&◌, not, List, [], ◌∷◌, ◌++◌, leb, ltb, length, if◌then◌else◌}
use Rattle.parse.specs.Logic.{bit}
use Rattle.parse.specs.Outcome.{Outcome, accept, refuse, and_then}
use Rattle.boxes.specs.Bytes.{to_be, outside}
use Rattle.unit_list.specs.UnitList.{Array, decode, held_arrays}
use Rattle.record_arrays.specs.Write.{arrays_bytes, arrays_fit}
use Rattle.record_arrays.specs.declared.Codec.TheVariants.{Hevc}
use Rattle.hvcc.specs.declared.HevcConfig.{HevcConfig}

-- general_profile_space 2, general_tier_flag 1, general_profile_idc 5
abbrev pub profile_byte : HevcConfig → ℕ
profile_byte h = h.general_profile_space * 64 + bit h.general_tier_flag * 32 + h.general_profile_idc

-- constant_frame_rate 2, num_temporal_layers 3, temporal_id_nested 1, length_size_minus_one 2
abbrev pub layers_byte : HevcConfig → ℕ
layers_byte h = h.constant_frame_rate * 64 + h.num_temporal_layers * 8 + bit h.temporal_id_nested * 4 + (h.length_size - 1)

-- the head
unfoldable pub hevc_head_bytes : HevcConfig → List ℕ
hevc_head_bytes h =
    (1 ∷ profile_byte h ∷ [])  -- configuration_version; the profile
    ++ to_be 4 h.general_profile_compatibility_flags
    ++ to_be 6 h.general_constraint_indicator_flags
    ++ (h.general_level_idc ∷ [])
    ++ to_be 2 (61440 + h.min_spatial_segmentation_idc)  -- 1111, min_spatial_segmentation_idc 12
    ++ ((252 + h.parallelism_type) ∷ [])  -- 111111, parallelism_type 2
    ++ ((252 + h.chroma_format_idc) ∷ [])  -- 111111, chroma_format_idc 2
    ++ ((248 + h.bit_depth_luma_minus8) ∷ [])  -- 11111, bit_depth_luma_minus8 3
    ++ ((248 + h.bit_depth_chroma_minus8) ∷ [])  -- 11111, bit_depth_chroma_minus8 3
    ++ to_be 2 h.avg_frame_rate
    ++ (layers_byte h ∷ [])

-- the record: head, num_of_arrays, arrays
unfoldable pub hevc_bytes : HevcConfig → List (Array (List ℕ)) → List ℕ
hevc_bytes h xs = hevc_head_bytes h ++ (length xs ∷ []) ++ arrays_bytes Hevc xs

-- every value of the head that could be wider than its field fits it; the other fields have the width of their type
unfoldable pub hevc_head_fits : HevcConfig → Bool
hevc_head_fits h =
    leb h.general_profile_space 3 && (leb h.general_profile_idc 31
    && (ltb h.general_constraint_indicator_flags (2 ^ 48) && (leb h.min_spatial_segmentation_idc 4095
    && (leb h.parallelism_type 3 && (leb h.chroma_format_idc 3
    && (leb h.bit_depth_luma_minus8 7 && (leb h.bit_depth_chroma_minus8 7
    && (leb h.constant_frame_rate 3 && (leb h.num_temporal_layers 7 && not (outside h.length_size))))))))))

-- every value fits its field, and there are at most 255 arrays; else 22
unfoldable pub hevc_fits : HevcConfig → List (Array (List ℕ)) → Bool
hevc_fits h xs = hevc_head_fits h && (leb (length xs) 255 && arrays_fit Hevc xs)

-- the record of a head and arrays. Refusal: 22
unfoldable pub write_hevc : HevcConfig → List (Array (List ℕ)) → Outcome (List ℕ)
write_hevc h xs = if hevc_fits h xs then accept (hevc_bytes h xs) else refuse 22

-- `hvcc_write::serialize`. Refusals: 23, 21, 22; with an output 20
unfoldable pub serialize_hevc : HevcConfig → List ℕ → Outcome (List ℕ)
serialize_hevc h list = and_then (decode list) (λ xs. write_hevc h (held_arrays list xs))
