-- A full record read after it was written (SCOPE 3.9 and 3.10): the same arrays, and the same head but for what `head_read` says. The claims are
-- `ReadAfterSerialize` and `ReadAfterSerialize01`.
use Rattle.std.specs.Prelude.{ℕ, ◌^◌, ◌<◌, ◌≡◌, Bool, true, false, List, length, get_or}
use Rattle.parse.specs.Outcome.{accept}
use Rattle.boxes.specs.Bytes.{AllBytes}
use Rattle.unit_list.specs.UnitList.{in_version}
use Rattle.ptl.specs.declared.VvcPtlRecord.{VvcPtlRecord}
use Rattle.ptl_record.specs.AsWritten.{as_written}
use Rattle.full.specs.Read.{plain_head, parse_full}
use Rattle.full.specs.Write.{serialize_full}
use Rattle.full.specs.declared.VvcConfig.{VvcConfig}

-- every field of a head fits its type in the code
pub record Wide (h : VvcConfig) : Type 0 where
  pub width : h.max_picture_width < 65536
  pub height : h.max_picture_height < 65536
  pub rate : h.avg_frame_rate < 65536

-- a head as the code has it: its numbers fit their types, and its arrays have their declared lengths
pub record Typed (h : VvcConfig) : Type 0 where
  pub wide : Wide h
  pub info : length h.native_ptl.general_constraint_info ≡ 63
  pub subs : length h.native_ptl.general_sub_profile_idc ≡ 255
  pub subs_small : (i : ℕ) → get_or h.native_ptl.general_sub_profile_idc i 0 < 2 ^ 32

-- the head with the PTL that is read
abbrev pub with_ptl : VvcConfig → VvcPtlRecord → VvcConfig
with_ptl h q = record {
  length_size = h.length_size;
  ptl_present_flag = true;
  ols_idx = h.ols_idx;
  num_sublayers = h.num_sublayers;
  constant_frame_rate = h.constant_frame_rate;
  chroma_format_idc = h.chroma_format_idc;
  bit_depth_minus8 = h.bit_depth_minus8;
  native_ptl = q;
  max_picture_width = h.max_picture_width;
  max_picture_height = h.max_picture_height;
  avg_frame_rate = h.avg_frame_rate;
}

-- the head that is read: without the flag the fields under it are 0
abbrev pub read_back : Bool → VvcConfig → VvcPtlRecord → VvcConfig
read_back true h q = with_ptl h q
read_back false h q = plain_head h.length_size

-- What is read of a head that was written. Without the PTL flag only length_size is kept, and every field under the flag is 0 (`plain_head`). With it
-- every field is the same but for these of native_ptl (`as_written`), where n is num_bytes_constraint_info and m is num_sublayers - 1, or 0 without
-- sublayers:
-- - n: 0 is read as 1;
-- - general_constraint_info: the first n bytes are the same, but the top two bits of the first are 0; every later byte is 0; all are 0 for n = 0;
-- - num_sublayer_levels is m;
-- - sublayer_level_present_flag: flag i is the same where i is below m and below the num_sublayer_levels that was written; elsewhere false;
-- - sublayer_level_idc: level i is the same where flag i is read as true; elsewhere 0;
-- - general_sub_profile_idc: the first num_sub_profiles are the same; the others are 0.
abbrev pub head_read : VvcConfig → VvcConfig
head_read h = read_back h.ptl_present_flag h (as_written h.native_ptl h.num_sublayers)

-- The claim, proved in proofs/Serialized.antt: when `serialize` accepts a head and a list of bytes, `parse` of the result returns the list in version
-- 01 and the head `head_read h`, and consumes all bytes. No record that is written is longer than 2^30 bytes, so 23 cannot occur.
abbrev pub ReadAfterSerialize : Type 0
ReadAfterSerialize =
    (h : VvcConfig) → Typed h → (list : List ℕ) → AllBytes list → (b : List ℕ) → serialize_full h list ≡ accept b
    → (wide : List ℕ) → in_version 1 list ≡ accept wide
    → parse_full b ≡ accept (record { head = head_read h; consumed = length b; list_length = length wide }, wide)

-- The claim for a list of version 01, whose first byte is 01: `parse` of what `serialize` wrote returns the list itself and the head `head_read h`, and
-- consumes all bytes.
abbrev pub ReadAfterSerialize01 : Type 0
ReadAfterSerialize01 =
    (h : VvcConfig) → Typed h → (list : List ℕ) → AllBytes list → get_or list 0 0 ≡ 1 → (b : List ℕ) → serialize_full h list ≡ accept b
    → parse_full b ≡ accept (record { head = head_read h; consumed = length b; list_length = length list }, list)
