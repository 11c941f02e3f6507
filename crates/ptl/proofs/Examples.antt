-- The PTL of the worked SPS of SCOPE 7: profile 1, level 51, frame-only, one constraint byte.
use mathlib.Core.Bool.{true, false}
use lib.ListN.{replicate}
use Rattle.ptl.specs.declared.VvcPtlRecord.{VvcPtlRecord}

abbrev pub ptl_of_p : VvcPtlRecord
ptl_of_p = record {
  general_profile_idc = 1;
  general_tier_flag = false;
  general_level_idc = 51;
  ptl_frame_only_constraint_flag = true;
  ptl_multilayer_enabled_flag = false;
  num_bytes_constraint_info = 1;
  general_constraint_info = replicate 63 0;
  num_sublayer_levels = 0;
  sublayer_level_present_flag = replicate 7 false;
  sublayer_level_idc = replicate 7 0;
  num_sub_profiles = 0;
  general_sub_profile_idc = replicate 255 0;
}
