-- A record that meets the premises of both claims, with a byte after it: the PTL flag, three sublayers of which the lower has no level, two
-- sub-profiles, an OPI array, and an SPS array of two units, one of them empty. With one reserved bit changed it is 25, with type 18 it is 26.
use Prim.Native.Nat.{ℕ, ◌≤◌}
use mathlib.Core.Path.{◌≡◌, refl}
use mathlib.Core.Bool.{true, false}
use mathlib.Core.List.{List, [], ◌∷◌, ◌++◌}
use native.Mathlib.Omega.{arith}
use lib.ListN.{length, set, take, replicate}
use Rattle.parse.specs.Outcome.{Outcome, accept, refuse, overlay, lent_output, counted}
use Rattle.parse.specs.Parse.{times}
use Rattle.boxes.specs.Bytes.{be, to_be, uint, bytes, chunk, to_chunk, AllBytes}
use Rattle.boxes.proofs.AllBytes.{all_bytes, bytes_of}
use Rattle.unit_list.specs.UnitList.{encode_units, encode_array, encode_arrays, encode}
use Rattle.ptl.specs.Ptl.{present_flags, levels, without_flags}
use Rattle.ptl_record.specs.Read.{octets, vvc_ptl_record}
use Rattle.record_arrays.specs.Read.{record_array}
use Rattle.full.specs.Read.{FullParsed, head_with_ptl, vvc_head, vvc_record, parse_full}
use Rattle.full.specs.Write.{serialize_full}
use Rattle.full.specs.Rules.{head_reserved, array_byte, record_array_bytes, all}
use Rattle.full.specs.Strict.{parse_strict}
use Rattle.full.specs.declared.VvcConfig.{VvcConfig}
use Rattle.rewritten.proofs.Rewritten.{strict_rewritten}

-- the head: prefix size 4, operating point 5, chroma 1, depth 9, profile 1, level 51, frame-only, 16 by 8
abbrev instance_head : VvcConfig
instance_head = record {
  length_size = 4;
  ptl_present_flag = true;
  ols_idx = 5;
  num_sublayers = 3;
  constant_frame_rate = 0;
  chroma_format_idc = 1;
  bit_depth_minus8 = 1;
  native_ptl = record {
    general_profile_idc = 1;
    general_tier_flag = false;
    general_level_idc = 51;
    ptl_frame_only_constraint_flag = true;
    ptl_multilayer_enabled_flag = false;
    num_bytes_constraint_info = 2;
    general_constraint_info = 0 ∷ 7 ∷ replicate 61 0;
    num_sublayer_levels = 2;
    sublayer_level_present_flag = false ∷ true ∷ replicate 5 false;
    sublayer_level_idc = 0 ∷ 35 ∷ replicate 5 0;
    num_sub_profiles = 2;
    general_sub_profile_idc = 9 ∷ 0xFFFEFDFC ∷ replicate 253 0;
  };
  max_picture_width = 16;
  max_picture_height = 8;
  avg_frame_rate = 0;
}

-- its bytes: byte 0, the operating point and so on, the depth, the PTL (the flags of sublayers 1 and 0 are 1 and 0), the sizes
abbrev head_octets : List ℕ
head_octets =
    (0xFF ∷ 0x02 ∷ 0xB1 ∷ 0x3F ∷ [])
    ++ (0x02 ∷ 0x02 ∷ 0x33 ∷ 0x80 ∷ 0x07 ∷ 0x80 ∷ 0x23 ∷ 0x02 ∷ 0x00 ∷ 0x00 ∷ 0x00 ∷ 0x09 ∷ 0xFF ∷ 0xFE ∷ 0xFD ∷ 0xFC ∷ [])
    ++ (0x00 ∷ 0x10 ∷ 0x00 ∷ 0x08 ∷ 0x00 ∷ 0x00 ∷ [])

-- two arrays: OPI, complete, one unit; SPS, not complete, a unit of two bytes and an empty one
abbrev array_octets : List ℕ
array_octets = 0x02 ∷ 0x8C ∷ 0x00 ∷ 0x03 ∷ 0x00 ∷ 0x61 ∷ 0xD0 ∷ 0x0F ∷ 0x00 ∷ 0x02 ∷ 0x00 ∷ 0x02 ∷ 0x00 ∷ 0x79 ∷ 0x00 ∷ 0x00 ∷ []

abbrev instance_record : List ℕ
instance_record = head_octets ++ array_octets

-- the unit list that is read
abbrev instance_list : List ℕ
instance_list =
    (0x01 ∷ [])
    ++ (0x00 ∷ 0x00 ∷ 0x00 ∷ 0x09 ∷ 0x01 ∷ 0x0C ∷ 0x00 ∷ 0x00 ∷ 0x00 ∷ 0x03 ∷ 0x00 ∷ 0x61 ∷ 0xD0 ∷ [])
    ++ (0x00 ∷ 0x00 ∷ 0x00 ∷ 0x0C ∷ 0x00 ∷ 0x0F ∷ 0x00 ∷ 0x00 ∷ 0x00 ∷ 0x02 ∷ 0x00 ∷ 0x79 ∷ 0x00 ∷ 0x00 ∷ 0x00 ∷ 0x00 ∷ [])

abbrev instance_read : FullParsed
instance_read = record { head = instance_head; consumed = 42; list_length = 30 }

-- the number of a refusal, 0 where the record is accepted
abbrev refusal_of : Outcome (FullParsed × List ℕ) → ℕ
refusal_of (accept r) = 0
refusal_of (refuse n) = n

-- the record with byte p set to b, and another byte after it
abbrev with_byte : ℕ → ℕ → List ℕ
with_byte p b = set instance_record p b ++ (0x55 ∷ [])

pub record StrictInstance : Type 0 where
  pub long : length instance_record ≡ 42
  pub read : parse_strict (instance_record ++ (0x55 ∷ [])) ≡ accept (instance_read, instance_list)
  pub bytes : AllBytes (instance_record ++ (0x55 ∷ []))
  -- byte 0, the depth byte, the constraint length, the level flags, the byte of the OPI array and of the SPS array
  pub front : refusal_of (parse_strict (with_byte 0 0x7F)) ≡ 25
  pub depth : refusal_of (parse_strict (with_byte 3 0x3E)) ≡ 25
  pub info : refusal_of (parse_strict (with_byte 4 0x42)) ≡ 25
  pub flags : refusal_of (parse_strict (with_byte 9 0xA0)) ≡ 25
  pub first_array : refusal_of (parse_strict (with_byte 27 0xAC)) ≡ 25
  pub last_array : refusal_of (parse_strict (with_byte 33 0x4F)) ≡ 25
  -- type 18; type 18 with a reserved bit
  pub other_type : refusal_of (parse_strict (with_byte 33 0x12)) ≡ 26
  pub both : refusal_of (parse_strict (set (with_byte 33 0x12) 0 0x7F)) ≡ 25
  -- a reserved bit, and the record cut off after it
  pub cut : refusal_of (parse_strict (take 41 (with_byte 0 0x7F))) ≡ 1

pub instance : StrictInstance
unfolding times be to_be uint bytes chunk to_chunk encode_units encode_array encode_arrays encode present_flags levels without_flags octets vvc_ptl_record
    record_array head_with_ptl vvc_head vvc_record parse_full head_reserved array_byte record_array_bytes all parse_strict all_bytes
instance = record {
  long = refl;
  read = refl;
  bytes = bytes_of (instance_record ++ (0x55 ∷ [])) refl;
  front = refl;
  depth = refl;
  info = refl;
  flags = refl;
  first_array = refl;
  last_array = refl;
  other_type = refl;
  both = refl;
  cut = refl;
}

-- written again, it is what was consumed
pub instance_rewritten : (out : List ℕ) → 42 ≤ length out
    → lent_output (counted (serialize_full instance_head instance_list)) out ≡ (accept 42, overlay instance_record out)
instance_rewritten out h =
    strict_rewritten (instance_record ++ (0x55 ∷ [])) instance.bytes instance_read instance_list instance.read (omega arith) out h
