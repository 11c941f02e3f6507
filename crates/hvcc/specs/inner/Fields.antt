-- Internal: the head of an HEVC record from the bytes at its places; `head_there` (proofs/HeadRead.antt) ties it to `hevc_head`.
use Rattle.std.specs.Prelude.{ℕ, ◌+◌, ◌/◌, ◌%◌, List, eqb, get_or}
use Rattle.boxes.specs.Bytes.{be}
use Rattle.hvcc.specs.declared.HevcConfig.{HevcConfig}

abbrev pub head_fields : List ℕ → HevcConfig
head_fields s = record {
  general_profile_space = get_or s 1 0 / 64;
  general_tier_flag = eqb (get_or s 1 0 / 32 % 2) 1;
  general_profile_idc = get_or s 1 0 % 32;
  general_profile_compatibility_flags = be s 2 4;
  general_constraint_indicator_flags = be s 6 6;
  general_level_idc = get_or s 12 0;
  min_spatial_segmentation_idc = be s 13 2 % 4096;
  parallelism_type = get_or s 15 0 % 4;
  chroma_format_idc = get_or s 16 0 % 4;
  bit_depth_luma_minus8 = get_or s 17 0 % 8;
  bit_depth_chroma_minus8 = get_or s 18 0 % 8;
  avg_frame_rate = be s 19 2;
  constant_frame_rate = get_or s 21 0 / 64;
  num_temporal_layers = get_or s 21 0 / 8 % 8;
  temporal_id_nested = eqb (get_or s 21 0 / 4 % 2) 1;
  length_size = get_or s 21 0 % 4 + 1;
}
