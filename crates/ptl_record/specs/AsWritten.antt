-- What reading (SCOPE 3.10) returns of a PTL that was written (SCOPE 3.9): what its bytes keep of it, 0 and false elsewhere.
use Rattle.std.specs.Prelude.{ℕ, zero, suc, ◌-◌, false, List, [], ◌∷◌, ◌++◌, length, get_or, take, if◌then◌else◌}
use Rattle.ptl.specs.Ptl.{padded, without_flags}
use Rattle.ptl.specs.declared.VvcPtlRecord.{VvcPtlRecord}
use Rattle.ptl_record.specs.Write.{constraint_info, has_level}

-- f 0 to f (m - 1)
unfoldable pub up_to : {A : Type 0} → ℕ → (ℕ → A) → List A
up_to zero f = []
up_to (suc m) f = up_to m f ++ (f m ∷ [])

-- the level of sublayer i, 0 where it has none
abbrev pub level_of : VvcPtlRecord → ℕ → ℕ
level_of p i = if has_level p i then get_or p.sublayer_level_idc i 0 else 0

-- no constraint bytes become one byte 00; the top two bits of the first are 0; the levels are those of the sublayers below the highest
abbrev pub as_written : VvcPtlRecord → ℕ → VvcPtlRecord
as_written p sublayers = record {
  general_profile_idc = p.general_profile_idc;
  general_tier_flag = p.general_tier_flag;
  general_level_idc = p.general_level_idc;
  ptl_frame_only_constraint_flag = p.ptl_frame_only_constraint_flag;
  ptl_multilayer_enabled_flag = p.ptl_multilayer_enabled_flag;
  num_bytes_constraint_info = length (constraint_info p);
  general_constraint_info = padded 63 0 (without_flags (constraint_info p));
  num_sublayer_levels = sublayers - 1;
  sublayer_level_present_flag = padded 7 false (up_to (sublayers - 1) (has_level p));
  sublayer_level_idc = padded 7 0 (up_to (sublayers - 1) (level_of p));
  num_sub_profiles = p.num_sub_profiles;
  general_sub_profile_idc = padded 255 0 (take p.num_sub_profiles p.general_sub_profile_idc);
}
