-- The head of the worked SPS of SCOPE 7, which crates/path/proofs/Worked.antt computes.
use mathlib.Core.Bool.{true, false}
use Rattle.ptl.proofs.Examples.{ptl_of_p}
use Rattle.sps.specs.declared.SpsHead.{SpsHead}

-- chroma 1, CTU 7, profile 1, level 51, frame-only, 16 by 8, depth 8
abbrev pub head_of_p : SpsHead
head_of_p = record {
  sps_id = 0;
  vps_id = 0;
  max_sublayers_minus1 = 0;
  chroma_format_idc = 1;
  log2_ctu_size = 7;
  ptl_present_flag = true;
  ptl = ptl_of_p;
  pic_width = 16;
  pic_height = 8;
  conformance_window_flag = false;
  conf_win_left_offset = 0;
  conf_win_right_offset = 0;
  conf_win_top_offset = 0;
  conf_win_bottom_offset = 0;
  bit_depth = 8;
}
