-- The head of an SPS as bits (SCOPE 3.7; H.266 7.3.2.4), read from a unit or from an RBSP.
use Rattle.std.specs.Prelude.{List, ℕ, ◌+◌, ltb, if◌then◌else◌}
use Rattle.parse.specs.Outcome.{Outcome, lent_input}
use Rattle.parse.specs.Parse.{Parser, ◌>>=◌, ◌>>◌, give, refuse_if, outcome}
use Rattle.bit_reader.specs.Bits.{u, is_set, ue}
use Rattle.ptl.specs.Ptl.{profile_tier_level, zero_ptl}
use Rattle.params.specs.OfUnit.{of_unit}
use Rattle.sps.specs.declared.SpsHead.{SpsHead}
use Rattle.sps.specs.declared.sections.ConfWindow.{ConfWindow}

-- sps_conf_win_left_offset, sps_conf_win_right_offset, sps_conf_win_top_offset, sps_conf_win_bottom_offset
unfoldable pub window : Parser ConfWindow
window = do
  left ← ue
  right ← ue
  top ← ue
  bottom ← ue
  give (record { left = left; right = right; top = top; bottom = bottom })

-- the offsets without the window flag
abbrev pub no_window : ConfWindow
no_window = record { left = 0; right = 0; top = 0; bottom = 0 }

-- seq_parameter_set_rbsp( ) up to sps_bitdepth_minus8
unfoldable pub sps_head : Parser SpsHead
sps_head = do
  id ← u 4  -- sps_seq_parameter_set_id
  vps ← u 4  -- sps_video_parameter_set_id
  s ← u 3  -- sps_max_sublayers_minus1
  chroma ← u 2  -- sps_chroma_format_idc
  ctu ← u 2  -- sps_log2_ctu_size_minus5
  has_ptl ← u 1  -- sps_ptl_dpb_hrd_params_present_flag
  ptl ← if is_set has_ptl then profile_tier_level s else give zero_ptl
  u 1  -- sps_gdr_enabled_flag
  resampling ← u 1  -- sps_ref_pic_resampling_enabled_flag
  if is_set resampling then u 1 else give 0  -- sps_res_change_in_clvs_allowed_flag
  width ← ue  -- sps_pic_width_max_in_luma_samples
  height ← ue  -- sps_pic_height_max_in_luma_samples
  has_window ← u 1  -- sps_conformance_window_flag
  win ← if is_set has_window then window else give no_window
  subpictures ← u 1  -- sps_subpic_info_present_flag
  refuse_if (is_set subpictures) 13
  depth ← ue  -- sps_bitdepth_minus8
  refuse_if (ltb 8 depth) 14
  give (record {
    sps_id = id;
    vps_id = vps;
    max_sublayers_minus1 = s;
    chroma_format_idc = chroma;
    log2_ctu_size = ctu + 5;
    ptl_present_flag = is_set has_ptl;
    ptl = ptl;
    pic_width = width;
    pic_height = height;
    conformance_window_flag = is_set has_window;
    conf_win_left_offset = win.left;
    conf_win_right_offset = win.right;
    conf_win_top_offset = win.top;
    conf_win_bottom_offset = win.bottom;
    bit_depth = depth + 8;
  })

-- `SpsHead::parse_nal`: 23, 10, then in bit order 11, 12, 13, 14
unfoldable pub parse_sps : List ℕ → Outcome SpsHead
parse_sps unit = of_unit 15 sps_head unit

-- `SpsHead::parse_rbsp`: 23, then in bit order 11, 12, 13, 14
unfoldable pub parse_sps_rbsp : List ℕ → Outcome SpsHead
parse_sps_rbsp rbsp = lent_input rbsp (outcome (sps_head rbsp 0))
