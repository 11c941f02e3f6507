-- Internal: the head of an SPS in the sections that the code reads one by one; `sps_sections` (proofs/SpsSections.antt) ties them to
-- `sps_head`.
use Rattle.std.specs.Prelude.{Bool, ℕ, ◌+◌, ltb, if◌then◌else◌}
use Rattle.parse.specs.Parse.{Parser, ◌>>=◌, ◌>>◌, give, refuse_if}
use Rattle.bit_reader.specs.Bits.{u, is_set, ue}
use Rattle.ptl.specs.Ptl.{profile_tier_level, zero_ptl}
use Rattle.ptl.specs.declared.VvcPtlRecord.{VvcPtlRecord}
use Rattle.sps.specs.Sps.{window, no_window}
use Rattle.sps.specs.declared.SpsHead.{SpsHead}
use Rattle.sps.specs.declared.sections.SpsIds.{SpsIds}
use Rattle.sps.specs.declared.sections.SpsSize.{SpsSize}
use Rattle.sps.specs.declared.sections.ConfWindow.{ConfWindow}

-- up to sps_ptl_dpb_hrd_params_present_flag: two bytes
unfoldable pub ids : Parser SpsIds
ids = do
  id ← u 4
  vps ← u 4
  s ← u 3
  chroma ← u 2
  ctu ← u 2
  has_ptl ← u 1
  give (record {
    sps_id = id;
    vps_id = vps;
    max_sublayers_minus1 = s;
    chroma_format_idc = chroma;
    log2_ctu_size = ctu + 5;
    ptl_present_flag = is_set has_ptl;
  })

-- profile_tier_level( 1, s ) where the flag is set, all zeros where not
abbrev pub ptl_where : Bool → ℕ → Parser VvcPtlRecord
ptl_where present s = if present then profile_tier_level s else give zero_ptl

-- up to sps_conformance_window_flag
unfoldable pub size : Parser SpsSize
size = do
  u 1
  resampling ← u 1
  if is_set resampling then u 1 else give 0
  width ← ue
  height ← ue
  has_window ← u 1
  give (record { pic_width = width; pic_height = height; conformance_window_flag = is_set has_window })

-- the window where the flag is set, all zeros where not
abbrev pub window_where : Bool → Parser ConfWindow
window_where present = if present then window else give no_window

-- sps_subpic_info_present_flag and sps_bitdepth_minus8
unfoldable pub depth : Parser ℕ
depth = do
  subpictures ← u 1
  refuse_if (is_set subpictures) 13
  d ← ue
  refuse_if (ltb 8 d) 14
  give d

-- the head that the sections make up
abbrev pub sps_head_of : SpsIds → VvcPtlRecord → SpsSize → ConfWindow → ℕ → SpsHead
sps_head_of i p z w d = record {
  sps_id = i.sps_id;
  vps_id = i.vps_id;
  max_sublayers_minus1 = i.max_sublayers_minus1;
  chroma_format_idc = i.chroma_format_idc;
  log2_ctu_size = i.log2_ctu_size;
  ptl_present_flag = i.ptl_present_flag;
  ptl = p;
  pic_width = z.pic_width;
  pic_height = z.pic_height;
  conformance_window_flag = z.conformance_window_flag;
  conf_win_left_offset = w.left;
  conf_win_right_offset = w.right;
  conf_win_top_offset = w.top;
  conf_win_bottom_offset = w.bottom;
  bit_depth = d + 8;
}
