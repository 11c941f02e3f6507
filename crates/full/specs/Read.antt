-- The full record read (SCOPE 3.10; VvcDecoderConfigurationRecord, ISO/IEC 14496-15:2024 11.2.4.2). Reserved bits are ignored.
use Rattle.std.specs.Prelude.{ℕ, ◌+◌, ◌/◌, ◌%◌, true, false, List, eqb, if◌then◌else◌}
use Rattle.parse.specs.Outcome.{Outcome, lent_input}
use Rattle.parse.specs.Parse.{Parser, ◌>>=◌, ◌>>◌, give, refuse_if, times}
use Rattle.boxes.specs.Bytes.{uint}
use Rattle.boxes.specs.declared.Span.{Span}
use Rattle.unit_list.specs.UnitList.{Array}
use Rattle.bit_reader.specs.Bits.{is_set}
use Rattle.ptl.specs.Ptl.{zero_ptl}
use Rattle.ptl.specs.declared.VvcPtlRecord.{VvcPtlRecord}
use Rattle.ptl_record.specs.Read.{vvc_ptl_record}
use Rattle.record_arrays.specs.Read.{record_array}
use Rattle.record_arrays.specs.Record.{record_parsed}
use Rattle.record_arrays.specs.declared.Codec.TheVariants.{Vvc}
use Rattle.record_arrays.specs.declared.ParsedRecord.{ParsedRecord}
use Rattle.full.specs.declared.VvcConfig.{VvcConfig}

-- a head without the PTL flag: the fields under the flag are 0
abbrev pub plain_head : ℕ → VvcConfig
plain_head size = record {
  length_size = size;
  ptl_present_flag = false;
  ols_idx = 0;
  num_sublayers = 0;
  constant_frame_rate = 0;
  chroma_format_idc = 0;
  bit_depth_minus8 = 0;
  native_ptl = zero_ptl;
  max_picture_width = 0;
  max_picture_height = 0;
  avg_frame_rate = 0;
}

-- the fields under the PTL flag, from the numbers that hold them
abbrev pub head_fields : ℕ → ℕ → ℕ → VvcPtlRecord → ℕ → ℕ → ℕ → VvcConfig
head_fields size w d ptl width height rate = record {
  length_size = size;
  ptl_present_flag = true;
  ols_idx = w / 128;
  num_sublayers = w / 16 % 8;
  constant_frame_rate = w / 4 % 4;
  chroma_format_idc = w % 4;
  bit_depth_minus8 = d / 32;
  native_ptl = ptl;
  max_picture_width = width;
  max_picture_height = height;
  avg_frame_rate = rate;
}

-- the fields under ptl_present_flag
unfoldable pub head_with_ptl : ℕ → Parser VvcConfig
head_with_ptl size = do
  w ← uint 2  -- ols_idx 9, num_sublayers 3, constant_frame_rate 2, chroma_format_idc 2
  d ← uint 1  -- bit_depth_minus8 3, reserved 5
  ptl ← vvc_ptl_record (w / 16 % 8)  -- native_ptl
  width ← uint 2  -- max_picture_width
  height ← uint 2  -- max_picture_height
  rate ← uint 2  -- avg_frame_rate
  give (head_fields size w d ptl width height rate)

-- the head: 3 for prefix size 3, directly after byte 0
unfoldable pub vvc_head : Parser VvcConfig
vvc_head = do
  b ← uint 1  -- reserved 5, LengthSizeMinusOne 2, ptl_present_flag 1
  refuse_if (eqb (b / 2 % 4) 2) 3  -- size 3
  if is_set (b % 2) then head_with_ptl (b / 2 % 4 + 1) else give (plain_head (b / 2 % 4 + 1))

-- the record: the head, num_of_arrays, the arrays
unfoldable pub vvc_record : Parser (VvcConfig × List (Array Span))
vvc_record = do
  head ← vvc_head
  n ← uint 1  -- num_of_arrays
  arrays ← times n (record_array Vvc)
  give (head, arrays)

-- what reading returns: the head, the number of bytes consumed, and the length of the list
abbrev pub FullParsed : Type 0
FullParsed = ParsedRecord VvcConfig

-- `full_read::parse`. Refusals: 23, then in byte order 3, 1 and 2; with an output 20
unfoldable pub parse_full : List ℕ → Outcome (FullParsed × List ℕ)
parse_full s = lent_input s (record_parsed s (vvc_record s 0))
