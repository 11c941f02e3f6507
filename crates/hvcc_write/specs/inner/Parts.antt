-- Internal: the head of an HEVC record, and parts of it; proofs/Heads.antt ties them to `hevc_head_bytes`.
use Rattle.std.specs.Prelude.{ℕ, ◌+◌, List, [], ◌∷◌, ◌++◌, if◌then◌else◌}
use Rattle.parse.specs.Outcome.{Outcome, accept, refuse}
use Rattle.boxes.specs.Bytes.{to_be}
use Rattle.hvcc.specs.Write.{profile_byte, hevc_head_bytes, hevc_head_fits}
use Rattle.hvcc.specs.declared.HevcConfig.{HevcConfig}

-- the bytes of a head. Refusal: 22
abbrev pub head_written : HevcConfig → Outcome (List ℕ)
head_written h = if hevc_head_fits h then accept (hevc_head_bytes h) else refuse 22

-- the bytes up to general_level_idc
abbrev pub profile_part : HevcConfig → List ℕ
profile_part h =
    (1 ∷ profile_byte h ∷ []) ++ to_be 4 h.general_profile_compatibility_flags ++ to_be 6 h.general_constraint_indicator_flags
    ++ (h.general_level_idc ∷ [])

-- those from min_spatial_segmentation_idc to bit_depth_chroma_minus8
abbrev pub formats_part : HevcConfig → List ℕ
formats_part h =
    to_be 2 (61440 + h.min_spatial_segmentation_idc) ++ ((252 + h.parallelism_type) ∷ (252 + h.chroma_format_idc)
    ∷ (248 + h.bit_depth_luma_minus8) ∷ (248 + h.bit_depth_chroma_minus8) ∷ [])
