-- An HEVC record that meets the premises of both claims, with a byte after it: prefix size 3, 4:4:4, depths 10 and 11, a VPS array, and an SPS array
-- with its reserved bit and two units, one of them empty. With other reserved bits in the head it is read alike; with another version it is 27.
use Prim.Native.Nat.{ℕ}
use mathlib.Core.Path.{◌≡◌, refl}
use mathlib.Core.Bool.{true, false}
use mathlib.Core.List.{List, [], ◌∷◌, ◌++◌}
use native.Mathlib.Omega.{arith}
use lib.ListN.{length, set, take}
use Rattle.parse.specs.Outcome.{Outcome, accept, refuse, counted, Writes}
use Rattle.parse.specs.Parse.{times}
use Rattle.boxes.specs.Bytes.{be, to_be, uint, bytes, chunk, to_chunk, AllBytes}
use Rattle.boxes.proofs.AllBytes.{all_bytes, bytes_of}
use Rattle.unit_list.specs.UnitList.{encode_units, encode_array, encode_arrays, encode}
use Rattle.record_arrays.specs.Read.{record_array}
use Rattle.hvcc.specs.Read.{HevcParsed, hevc_head, hevc_record, parse_hevc}
use Rattle.hvcc.specs.Write.{serialize_hevc}
use Rattle.hvcc.specs.declared.HevcConfig.{HevcConfig}
use Rattle.hvcc.proofs.Serialized.{hevc_read_after_serialize_01}
use Rattle.rewritten.specs.Hevc.{head_standard}
use Rattle.rewritten.proofs.Hevc.{hevc_rewritten}

abbrev instance_head : HevcConfig
instance_head = record {
  general_profile_space = 1;
  general_tier_flag = true;
  general_profile_idc = 2;
  general_profile_compatibility_flags = 0x20000000;
  general_constraint_indicator_flags = 0x900000000001;
  general_level_idc = 90;
  min_spatial_segmentation_idc = 5;
  parallelism_type = 1;
  chroma_format_idc = 3;
  bit_depth_luma_minus8 = 2;
  bit_depth_chroma_minus8 = 3;
  avg_frame_rate = 25;
  constant_frame_rate = 1;
  num_temporal_layers = 2;
  temporal_id_nested = true;
  length_size = 3;
}

-- version, profile, compatibility, constraints, level; segmentation up to the last byte of the head
abbrev head_octets : List ℕ
head_octets =
    (0x01 ∷ 0x62 ∷ 0x20 ∷ 0x00 ∷ 0x00 ∷ 0x00 ∷ 0x90 ∷ 0x00 ∷ 0x00 ∷ 0x00 ∷ 0x00 ∷ 0x01 ∷ 0x5A ∷ [])
    ++ (0xF0 ∷ 0x05 ∷ 0xFD ∷ 0xFF ∷ 0xFA ∷ 0xFB ∷ 0x00 ∷ 0x19 ∷ 0x56 ∷ [])

-- two arrays: VPS, complete, one unit; SPS, not complete, its reserved bit set, a unit of two bytes and an empty one
abbrev array_octets : List ℕ
array_octets =
    (0x02 ∷ 0xA0 ∷ 0x00 ∷ 0x01 ∷ 0x00 ∷ 0x02 ∷ 0x40 ∷ 0x01 ∷ []) ++ (0x61 ∷ 0x00 ∷ 0x02 ∷ 0x00 ∷ 0x02 ∷ 0x42 ∷ 0x01 ∷ 0x00 ∷ 0x00 ∷ [])

abbrev instance_record : List ℕ
instance_record = head_octets ++ array_octets

-- the unit list that is read: complete bytes 1 and 2
abbrev instance_list : List ℕ
instance_list =
    (0x01 ∷ [])
    ++ (0x00 ∷ 0x00 ∷ 0x00 ∷ 0x08 ∷ 0x01 ∷ 0x20 ∷ 0x00 ∷ 0x00 ∷ 0x00 ∷ 0x02 ∷ 0x40 ∷ 0x01 ∷ [])
    ++ (0x00 ∷ 0x00 ∷ 0x00 ∷ 0x0C ∷ 0x02 ∷ 0x21 ∷ 0x00 ∷ 0x00 ∷ 0x00 ∷ 0x02 ∷ 0x42 ∷ 0x01 ∷ 0x00 ∷ 0x00 ∷ 0x00 ∷ 0x00 ∷ [])

abbrev instance_read : HevcParsed
instance_read = record { head = instance_head; consumed = 39; list_length = 29 }

-- the number of a refusal, 0 where the record is accepted
abbrev refusal_of : Outcome (HevcParsed × List ℕ) → ℕ
refusal_of (accept r) = 0
refusal_of (refuse n) = n

-- the record with a byte after it, and the same with other reserved bits in the head
abbrev longer : List ℕ
longer = instance_record ++ (0x55 ∷ [])

abbrev loose : List ℕ
loose = set (set (set (set (set longer 13 0x50) 15 0x01) 16 0x83) 17 0xF2) 18 0x0B

pub record HevcInstance : Type 0 where
  pub long : length instance_record ≡ 39
  pub read : parse_hevc longer ≡ accept (instance_read, instance_list)
  pub bytes : AllBytes longer
  pub standard : head_standard longer ≡ true
  pub read_loose : parse_hevc loose ≡ accept (instance_read, instance_list)
  pub not_standard : head_standard loose ≡ false
  -- another version, also where nothing follows it; no byte; a record cut off
  pub version : refusal_of (parse_hevc (set longer 0 2)) ≡ 27
  pub alone : refusal_of (parse_hevc (0x00 ∷ [])) ≡ 27
  pub empty : refusal_of (parse_hevc []) ≡ 1
  pub cut : refusal_of (parse_hevc (take 38 longer)) ≡ 1

pub hevc_instance : HevcInstance
unfolding times be to_be uint bytes chunk to_chunk encode_units encode_array encode_arrays encode record_array hevc_head hevc_record parse_hevc
    head_standard all_bytes
hevc_instance = record {
  long = refl;
  read = refl;
  bytes = bytes_of longer refl;
  standard = refl;
  read_loose = refl;
  not_standard = refl;
  version = refl;
  alone = refl;
  empty = refl;
  cut = refl;
}

-- written again, it is what was consumed
pub hevc_instance_rewritten : serialize_hevc instance_head instance_list ≡ accept instance_record
hevc_instance_rewritten =
    let w = hevc_rewritten longer hevc_instance.bytes instance_read instance_list hevc_instance.read (omega arith) in
    rw (← w.kept hevc_instance.standard) w.written

-- to any output that is long enough
pub hevc_instance_output : Writes (counted (serialize_hevc instance_head instance_list)) 39 instance_record
hevc_instance_output =
    let w = hevc_rewritten longer hevc_instance.bytes instance_read instance_list hevc_instance.read (omega arith) in
    rw (w.kept hevc_instance.standard) at w.writes

-- and read after writing, it is the head and the list
list_bytes : AllBytes instance_list
unfolding all_bytes
list_bytes = bytes_of instance_list refl

pub hevc_instance_read : parse_hevc instance_record ≡ accept (instance_read, instance_list)
hevc_instance_read =
    hevc_read_after_serialize_01 instance_head (record { compatibility = omega arith; level = omega arith; rate = omega arith }) instance_list list_bytes
    refl instance_record hevc_instance_rewritten
