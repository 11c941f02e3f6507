-- The size inside the conformance window (SCOPE 4.4; H.266 7.4.3.4, sps_conf_win offsets in units of SubWidthC and SubHeightC).
use Rattle.std.specs.Prelude.{ℕ, ◌+◌, ◌*◌, ◌-◌, ◌^◌, min, max, ◌||◌, eqb, if◌then◌else◌}
use Rattle.sps.specs.declared.SpsHead.{SpsHead}
use Rattle.cropped_size.specs.declared.PictureSize.{PictureSize}

-- min(n, 2^32 - 1)
abbrev pub clamp32 : ℕ → ℕ
clamp32 n = min n (2 ^ 32 - 1)

-- SubWidthC and SubHeightC by chroma format: 2 and 2 for 1, 2 and 1 for 2, else 1
abbrev pub sub_width : ℕ → ℕ
sub_width chroma = if eqb chroma 1 || eqb chroma 2 then 2 else 1

abbrev pub sub_height : ℕ → ℕ
sub_height chroma = if eqb chroma 1 then 2 else 1

-- a side less unit * (a + b), at least 1; a difference below 0 counts as 0
abbrev pub cropped_side : ℕ → ℕ → ℕ → ℕ → ℕ
cropped_side side unit a b = max (side - clamp32 (unit * clamp32 (a + b))) 1

-- `cropped_size`: without the window flag the width and the height themselves
unfoldable pub cropped_size : SpsHead → PictureSize
cropped_size h =
    if h.conformance_window_flag
    then record {
      width = cropped_side h.pic_width (sub_width h.chroma_format_idc) h.conf_win_left_offset h.conf_win_right_offset;
      height = cropped_side h.pic_height (sub_height h.chroma_format_idc) h.conf_win_top_offset h.conf_win_bottom_offset;
    }
    else record { width = h.pic_width; height = h.pic_height }
