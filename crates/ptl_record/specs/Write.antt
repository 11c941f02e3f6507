-- The PTL of a full record, written (VvcPTLRecord: ISO/IEC 14496-15 11.2.4.1; SCOPE 3.9). Reserved bits are those of the standard.
use Rattle.std.specs.Prelude.{ℕ, zero, suc, ◌+◌, ◌-◌, ◌*◌, ◌/◌, ◌%◌, Bool, false, ◌&&◌, List, [], ◌∷◌, ◌++◌, leb, ltb, eqb, length, get_or, take, if◌then◌else◌}
use Rattle.parse.specs.Logic.{bit}
use Rattle.boxes.specs.Bytes.{to_be}
use Rattle.ptl.specs.declared.VvcPtlRecord.{VvcPtlRecord}

-- the constraint bytes as written, before the flags are put in: one byte 00 where there are none
abbrev pub constraint_info : VvcPtlRecord → List ℕ
constraint_info p = if eqb p.num_bytes_constraint_info 0 then 0 ∷ [] else take p.num_bytes_constraint_info p.general_constraint_info

-- a constraint byte with the two flags in place of its top two bits
abbrev pub with_flag_bits : VvcPtlRecord → ℕ → ℕ
with_flag_bits p b = bit p.ptl_frame_only_constraint_flag * 128 + bit p.ptl_multilayer_enabled_flag * 64 + b % 64

-- the top two bits of the first are replaced by the frame-only flag and the multilayer flag
unfoldable pub with_flags : VvcPtlRecord → List ℕ → List ℕ
with_flags p [] = []
with_flags p (b ∷ r) = with_flag_bits p b ∷ r

-- whether sublayer i has a level; a level at or above the level count is absent
abbrev pub has_level : VvcPtlRecord → ℕ → Bool
has_level p i = ltb i p.num_sublayer_levels && get_or p.sublayer_level_present_flag i false

-- the present flags of sublayers m - 1 down to 0, from the top bit down, then zeros
unfoldable pub flag_byte : VvcPtlRecord → ℕ → ℕ
flag_byte p zero = 0
flag_byte p (suc m) = bit (has_level p m) * 128 + flag_byte p m / 2

-- the levels of the sublayers that have one, from sublayer m - 1 down to 0
unfoldable pub level_bytes : VvcPtlRecord → ℕ → List ℕ
level_bytes p zero = []
level_bytes p (suc m) = if has_level p m then get_or p.sublayer_level_idc m 0 ∷ level_bytes p m else level_bytes p m

-- the flag byte and the levels, only with num_sublayers above 1
abbrev pub level_part : VvcPtlRecord → ℕ → List ℕ
level_part p sublayers = if ltb 1 sublayers then flag_byte p (sublayers - 1) ∷ level_bytes p (sublayers - 1) else []

-- the sub-profiles, four bytes each
unfoldable pub sub_profile_bytes : List ℕ → List ℕ
sub_profile_bytes [] = []
sub_profile_bytes (v ∷ vs) = to_be 4 v ++ sub_profile_bytes vs

-- the bytes before the levels
abbrev pub front_bytes : VvcPtlRecord → List ℕ
front_bytes p =
    (length (constraint_info p) ∷ [])  -- 00, num_bytes_constraint_info 6
    ++ ((p.general_profile_idc * 2 + bit p.general_tier_flag) ∷ [])  -- general_profile_idc 7, general_tier_flag 1
    ++ (p.general_level_idc ∷ [])
    ++ with_flags p (constraint_info p)

-- VvcPTLRecord( num_sublayers )
unfoldable pub ptl_bytes : VvcPtlRecord → ℕ → List ℕ
ptl_bytes p sublayers =
    front_bytes p
    ++ level_part p sublayers
    ++ (p.num_sub_profiles ∷ [])
    ++ sub_profile_bytes (take p.num_sub_profiles p.general_sub_profile_idc)

-- every field of a PTL fits its place; a level count above 7 does not fit either, though the count is not written
unfoldable pub ptl_fits : VvcPtlRecord → Bool
ptl_fits p =
    leb p.general_profile_idc 127 && (leb p.num_bytes_constraint_info 63
    && (leb p.num_sublayer_levels 7 && leb p.num_sub_profiles 255))
