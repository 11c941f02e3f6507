-- The HEVC record read (SCOPE 4.11; HEVCDecoderConfigurationRecord, ISO/IEC 14496-15 8.3.3.1). Reserved bits of the head are ignored.
use Rattle.std.specs.Prelude.{ℕ, ◌+◌, ◌/◌, ◌%◌, not, List, eqb}
use Rattle.parse.specs.Outcome.{Outcome, lent_input}
use Rattle.parse.specs.Parse.{Parser, ◌>>=◌, ◌>>◌, give, refuse_if, times}
use Rattle.boxes.specs.Bytes.{uint}
use Rattle.boxes.specs.declared.Span.{Span}
use Rattle.unit_list.specs.UnitList.{Array}
use Rattle.record_arrays.specs.Read.{record_array}
use Rattle.record_arrays.specs.Record.{record_parsed}
use Rattle.record_arrays.specs.declared.Codec.TheVariants.{Hevc}
use Rattle.record_arrays.specs.declared.ParsedRecord.{ParsedRecord}
use Rattle.hvcc.specs.declared.HevcConfig.{HevcConfig}

-- the head: 27 for a version other than 1, directly after byte 0
unfoldable pub hevc_head : Parser HevcConfig
hevc_head = do
  version ← uint 1  -- configuration_version
  refuse_if (not (eqb version 1)) 27
  profile ← uint 1  -- general_profile_space 2, general_tier_flag 1, general_profile_idc 5
  compatibility ← uint 4  -- general_profile_compatibility_flags
  constraints ← uint 6  -- general_constraint_indicator_flags
  level ← uint 1  -- general_level_idc
  segmentation ← uint 2  -- reserved 4, min_spatial_segmentation_idc 12
  parallelism ← uint 1  -- reserved 6, parallelism_type 2
  chroma ← uint 1  -- reserved 6, chroma_format_idc 2
  luma ← uint 1  -- reserved 5, bit_depth_luma_minus8 3
  depth ← uint 1  -- reserved 5, bit_depth_chroma_minus8 3
  rate ← uint 2  -- avg_frame_rate
  layers ← uint 1  -- constant_frame_rate 2, num_temporal_layers 3, temporal_id_nested 1, length_size_minus_one 2
  give (record {
    general_profile_space = profile / 64;
    general_tier_flag = eqb (profile / 32 % 2) 1;
    general_profile_idc = profile % 32;
    general_profile_compatibility_flags = compatibility;
    general_constraint_indicator_flags = constraints;
    general_level_idc = level;
    min_spatial_segmentation_idc = segmentation % 4096;
    parallelism_type = parallelism % 4;
    chroma_format_idc = chroma % 4;
    bit_depth_luma_minus8 = luma % 8;
    bit_depth_chroma_minus8 = depth % 8;
    avg_frame_rate = rate;
    constant_frame_rate = layers / 64;
    num_temporal_layers = layers / 8 % 8;
    temporal_id_nested = eqb (layers / 4 % 2) 1;
    length_size = layers % 4 + 1;
  })

-- the record: the head, num_of_arrays, the arrays
unfoldable pub hevc_record : Parser (HevcConfig × List (Array Span))
hevc_record = do
  head ← hevc_head
  n ← uint 1  -- num_of_arrays
  arrays ← times n (record_array Hevc)
  give (head, arrays)

-- what reading returns: the head, the number of bytes consumed, and the length of the list
abbrev pub HevcParsed : Type 0
HevcParsed = ParsedRecord HevcConfig

-- `hvcc_read::parse`. Refusals: 23, then in byte order 1 and 27; with an output 20
unfoldable pub parse_hevc : List ℕ → Outcome (HevcParsed × List ℕ)
parse_hevc s = lent_input s (record_parsed s (hevc_record s 0))
