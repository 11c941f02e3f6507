-- The worked bytes of SCOPE 7 that are marked 'proved', as one theorem; each line computes from the definitions that the contracts cite.
use Prim.Native.Nat.{ℕ}
use mathlib.Core.Path.{◌≡◌, refl}
use mathlib.Core.Bool.{false}
use mathlib.Core.List.{List, [], ◌∷◌, ◌++◌}
use lib.ListN.{length}
use Rattle.parse.specs.Outcome.{Outcome, accept, refuse, and_then}
use Rattle.parse.specs.Parse.{value, refused, times, many, many_up_to}
use Rattle.boxes.specs.Bytes.{be, to_be, uint, bytes, chunk, to_chunk, inside}
use Rattle.unit_list.specs.UnitList.{array_rest, array, unit_list, decode, units_of, units_of_type, encode_units, encode_array, encode_arrays, encode}
use Rattle.unit_list.specs.UnitList.{units_fit}
use Rattle.rbsp.specs.Rbsp.{drops, next_zeros, unescape, rbsp}
use Rattle.bit_reader.specs.Bits.{bits_at, u, skip, align, zeros_before_one, ue}
use Rattle.ptl.specs.Ptl.{present_flags, levels, without_flags, constraint_bits, general_constraints_info, constraint_bytes, profile_tier_level}
use Rattle.ptl_record.specs.Read.{octets, vvc_ptl_record}
use Rattle.ptl_record.specs.Write.{with_flags, flag_byte, level_bytes, sub_profile_bytes, ptl_bytes, ptl_fits}
use Rattle.sps.specs.Sps.{window, sps_head, parse_sps}
use Rattle.sps.proofs.Examples.{head_of_p}
use Rattle.vps.specs.Vps.{vps_ptl, vps_first_ptl}
use Rattle.grouping.specs.Grouping.{having_type, without, firsts, grouped}
use Rattle.compact.specs.declared.CompactRead.{CompactRead}
use Rattle.compact.specs.Compact.{at_end, compact_record, one_array, parse_compact}
use Rattle.compact.specs.ItemData.{restore}
use Rattle.compact.specs.declared.CompactVvcConfig.{CompactVvcConfig}
use Rattle.record_arrays.specs.Read.{record_array}
use Rattle.record_arrays.specs.Write.{array_bytes, arrays_bytes, array_fits, arrays_fit}
use Rattle.full.specs.Read.{FullParsed, head_with_ptl, vvc_head, vvc_record, parse_full}
use Rattle.full.specs.Write.{ptl_part, head_bytes, full_bytes, ptl_part_fits, head_fits, record_fits, write_full, serialize_full}
use Rattle.expand.specs.Expand.{multi_layer_vps, ptl_of_sets, expand_units, to_full}

-- an SPS and a PPS
abbrev pub P : List ℕ
P = 0x00 ∷ 0x79 ∷ 0x00 ∷ 0x0D ∷ 0x02 ∷ 0x33 ∷ 0x80 ∷ 0x00 ∷ 0x02 ∷ 0x22 ∷ 0x4C ∷ []

abbrev pub Q : List ℕ
Q = 0x00 ∷ 0x81 ∷ 0x80 ∷ []

-- the compact record 60 0B P 03 Q
abbrev pub C : List ℕ
C = 0x60 ∷ 0x0B ∷ P ++ (0x03 ∷ Q)

abbrev plain : ℕ → CompactVvcConfig
plain size = record { multi_layer_flag = false; length_size = size }

-- a list that was read, expanded with chroma 1, depth 8, 16 by 8, and its full record
abbrev written : Outcome (CompactRead × List ℕ) → Outcome (List ℕ)
written o =
    and_then o (λ r.
    and_then (to_full r.0.config (record { chroma_format_idc = 1; bit_depth = 8; width = 16; height = 8 }) r.1) (λ f.
    serialize_full f.0.head f.1))

-- a full record read and written again: the bytes consumed, and the new record
abbrev rewritten : Outcome (FullParsed × List ℕ) → Outcome (ℕ × List ℕ)
rewritten o = and_then o (λ r. and_then (serialize_full r.0.head r.1) (λ b. accept (r.0.consumed, b)))

pub record Worked : Type 0 where
  -- 60 0B P 03 Q reads: prefix size 4, 2 units
  pub compact_reads : parse_compact C
      ≡ accept (record { config = plain 4; unit_count = 2; list_length = length (one_array (P ∷ Q ∷ [])) }, one_array (P ∷ Q ∷ []))
  pub sps_head_lem : parse_sps P ≡ accept head_of_p
  -- FF 00 15 1F 01 02 33 80 00 00 10 00 08 00 00 02 8F 00 01 00 0B P 90 00 01 00 03 Q
  pub expanded_and_written : written (parse_compact C) ≡ accept
      ((0xFF ∷ 0x00 ∷ 0x15 ∷ 0x1F ∷ 0x01 ∷ 0x02 ∷ 0x33 ∷ 0x80 ∷ 0x00 ∷ 0x00 ∷ 0x10 ∷ 0x00 ∷ 0x08 ∷ 0x00 ∷ 0x00 ∷ 0x02 ∷ [])
      ++ (0x8F ∷ 0x00 ∷ 0x01 ∷ 0x00 ∷ 0x0B ∷ P) ++ (0x90 ∷ 0x00 ∷ 0x01 ∷ 0x00 ∷ 0x03 ∷ Q))
  -- 9A restored, flag clear, prefix size 4
  pub restored : restore (plain 4) (0x9A ∷ []) ≡ accept (0x00 ∷ 0x00 ∷ 0x00 ∷ 0x03 ∷ 0x00 ∷ 0x41 ∷ 0x9A ∷ [])
  -- 40 00 00 reads (prefix size 3), 40 00 is 1, 40 00 00 00 is 7
  pub size_3_reads : parse_compact (0x40 ∷ 0x00 ∷ 0x00 ∷ [])
      ≡ accept (record { config = plain 3; unit_count = 2; list_length = length (one_array ([] ∷ [] ∷ [])) }, one_array ([] ∷ [] ∷ []))
  pub unit_missing : parse_compact (0x40 ∷ 0x00 ∷ []) ≡ refuse 1
  pub byte_left : parse_compact (0x40 ∷ 0x00 ∷ 0x00 ∷ 0x00 ∷ []) ≡ refuse 7
  -- 00 00 55 reads as a full record of 2 bytes, written again as F8 00; FC 00 is 3
  pub full_rewritten : rewritten (parse_full (0x00 ∷ 0x00 ∷ 0x55 ∷ [])) ≡ accept (2, 0xF8 ∷ 0x00 ∷ [])
  pub full_size_3 : parse_full (0xFC ∷ 0x00 ∷ []) ≡ refuse 3
  -- ue(v) of 00 00 00 01 FF FF FF FE, of four bytes 00, of three
  pub largest_code : ue (0x00 ∷ 0x00 ∷ 0x00 ∷ 0x01 ∷ 0xFF ∷ 0xFF ∷ 0xFF ∷ 0xFE ∷ []) 0 ≡ value 4294967294 63
  pub too_long_code : ue (0x00 ∷ 0x00 ∷ 0x00 ∷ 0x00 ∷ []) 0 ≡ refused 12
  pub code_runs_out : ue (0x00 ∷ 0x00 ∷ 0x00 ∷ []) 0 ≡ refused 11
  -- the RBSP of 00 00 03 00 00 03 is 00 00 00 00
  pub extracted : rbsp (0x00 ∷ 0x00 ∷ 0x03 ∷ 0x00 ∷ 0x00 ∷ 0x03 ∷ []) ≡ 0x00 ∷ 0x00 ∷ 0x00 ∷ 0x00 ∷ []

pub worked : Worked
unfolding times many many_up_to be to_be uint bytes chunk to_chunk inside array_rest array unit_list decode units_of units_of_type encode_units encode_array
    encode_arrays encode drops next_zeros unescape bits_at u skip align zeros_before_one ue present_flags levels without_flags constraint_bits
    general_constraints_info constraint_bytes profile_tier_level window sps_head vps_ptl parse_sps vps_first_ptl at_end compact_record parse_compact restore
    octets vvc_ptl_record head_with_ptl vvc_head record_array vvc_record parse_full with_flags flag_byte level_bytes sub_profile_bytes ptl_bytes ptl_part head_bytes
    array_bytes arrays_bytes full_bytes ptl_fits ptl_part_fits head_fits units_fit array_fits arrays_fit record_fits write_full serialize_full having_type without
    firsts grouped multi_layer_vps ptl_of_sets expand_units to_full
worked = record {
  compact_reads = refl;
  sps_head_lem = refl;
  expanded_and_written = refl;
  restored = refl;
  size_3_reads = refl;
  unit_missing = refl;
  byte_left = refl;
  full_rewritten = refl;
  full_size_3 = refl;
  largest_code = refl;
  too_long_code = refl;
  code_runs_out = refl;
  extracted = refl;
}
