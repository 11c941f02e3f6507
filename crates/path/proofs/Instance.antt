-- Stills that meet every premise of the whole path, and what the claim says of them under both choices of start codes. The first is P and Q of
-- SCOPE 7 with S = 9A. The second has mixed types, so that grouping changes the order, prefix size 1 and an empty S. The third has the units of the
-- second in another order and prefix size 4: another C with the same stream. The fourth has 00 00 02 inside S: it does not pass the unit check.
use Prim.Native.Nat.{ℕ, ◌≤◌}
use native.Mathlib.Omega.{arith}
use mathlib.Core.Path.{◌≡◌, refl, sym, ap, ◌∙◌}
use mathlib.Core.Bool.{false}
use Rattle.std.specs.Prelude.{Option}
use mathlib.Core.List.{List, [], ◌∷◌, ◌++◌, append-nil}
use lib.ListN.{length, get_or}
use Rattle.parse.specs.Outcome.{accept}
use Rattle.parse.specs.Parse.{times, many, many_up_to}
use Rattle.boxes.specs.Parts.{held, nowhere}
use Rattle.boxes.specs.Bytes.{be, to_be, uint, bytes, chunk, to_chunk, inside}
use Rattle.boxes.proofs.AllBytes.{all_bytes}
use Rattle.unit_check.specs.Answers.{checked}
use Rattle.start_code.specs.StartCode.{bytes_before, starts_with_code, scan}
use Rattle.unit_check.specs.UnitCheck.{ends_in_zero}
use Rattle.start_code.specs.Splittable.{Splittable}
use Rattle.unit_check.specs.UnitCheck.{starts_forbidden, unit_checked}
use Rattle.unit_list.specs.UnitList.{array_rest, array, unit_list, decode, units_of, encode_units, encode_array, encode_arrays, encode}
use Rattle.rbsp.specs.Rbsp.{drops, next_zeros, unescape}
use Rattle.bit_reader.specs.Bits.{bits_at, u, skip, align, zeros_before_one, ue}
use Rattle.ptl.specs.Ptl.{present_flags, levels, without_flags, constraint_bits, general_constraints_info, constraint_bytes, profile_tier_level}
use Rattle.sps.specs.Sps.{window, sps_head, parse_sps}
use Rattle.annex_b.proofs.Checked.{all_checked}
use Rattle.annex_b.specs.Stream.{annex_b}
use Rattle.grouping.specs.Grouping.{having_type, without, firsts, grouped}
use Rattle.grouping.proofs.Grouping.{grouped_as}
use Rattle.compact.specs.Compact.{at_end, compact_record, parse_compact}
use Rattle.expand.specs.Expand.{multi_layer_vps, ptl_of_sets, expand_units, to_full}
use Rattle.expand.specs.declared.Picture.{Picture}
use Rattle.access_unit.specs.AccessUnit.{code_of}
use Rattle.access_unit.specs.declared.StartCodes.{StartCodes}
use Rattle.access_unit.specs.declared.StartCodes.TheVariants.{Four, Short}
use Rattle.path.specs.Still.{units_in, Still}
use Rattle.path.specs.Path.{Path, Paths}
use Rattle.path.proofs.Worked.{P, Q, C}
use Rattle.path.proofs.Units.{still_splits}
use Rattle.path.proofs.Premises.{clean_of, meets}
use Rattle.path.proofs.OneOrder.{one_order}
use Rattle.path.proofs.Path.{whole_path}

-- a second SPS and PPS, an OPI, a DCI and an SEI unit
abbrev pub P' : List ℕ
P' = 0x00 ∷ 0x79 ∷ 0x10 ∷ 0x0D ∷ 0x02 ∷ 0x33 ∷ 0x80 ∷ 0x00 ∷ 0x02 ∷ 0x22 ∷ 0x4C ∷ []

abbrev pub Q' : List ℕ
Q' = 0x00 ∷ 0x81 ∷ 0xC0 ∷ []

abbrev pub opi : List ℕ
opi = 0x00 ∷ 0x61 ∷ 0x90 ∷ []

abbrev pub dci : List ℕ
dci = 0x00 ∷ 0x69 ∷ 0x08 ∷ []

abbrev pub sei : List ℕ
sei = 0x00 ∷ 0xB9 ∷ 0x93 ∷ 0x01 ∷ 0x12 ∷ 0x80 ∷ []

-- the compact record 05 03 Q 0B P 03 OPI 06 SEI 03 Q' 03 DCI 0B P'
abbrev pub mixed : List ℕ
mixed = (0x05 ∷ 0x03 ∷ Q) ++ (0x0B ∷ P) ++ (0x03 ∷ opi) ++ (0x06 ∷ sei) ++ (0x03 ∷ Q') ++ (0x03 ∷ dci) ++ (0x0B ∷ P')

-- the units of `mixed` in another order, with prefix size 4: 65 03 Q 0B P 03 Q' 0B P' 03 OPI 06 SEI 03 DCI
abbrev pub reordered : List ℕ
reordered = (0x65 ∷ 0x03 ∷ Q) ++ (0x0B ∷ P) ++ (0x03 ∷ Q') ++ (0x0B ∷ P') ++ (0x03 ∷ opi) ++ (0x06 ∷ sei) ++ (0x03 ∷ dci)

-- stored bytes with 00 00 02 inside
abbrev pub two_inside : List ℕ
two_inside = 0x9A ∷ 0x00 ∷ 0x00 ∷ 0x02 ∷ 0x80 ∷ []

pub record Instances : Type 0 where
  pub worked : Still C (0x9A ∷ [])
  pub interleaved : Still mixed []
  pub other_order : Still reordered []
  -- the premises are wider than the unit check (SCOPE 4.6), which answers no for the unit that is restored from these stored bytes
  pub two_inside_lem : Still C two_inside
  pub two_splits : Splittable (0x00 ∷ 0x41 ∷ two_inside)
  pub two_fails : checked (0x00 ∷ 0x41 ∷ two_inside) ≡ accept false

pub instances : Instances
unfolding times many many_up_to be to_be uint bytes chunk to_chunk inside array_rest array unit_list decode units_of encode_units encode_array encode_arrays
    encode drops next_zeros unescape bits_at u skip align zeros_before_one ue present_flags levels without_flags constraint_bits general_constraints_info
    constraint_bytes profile_tier_level window sps_head parse_sps at_end compact_record parse_compact having_type without firsts grouped multi_layer_vps
    ptl_of_sets expand_units to_full all_bytes bytes_before starts_with_code scan starts_forbidden ends_in_zero unit_checked all_checked
instances = record {
  worked = meets C (0x9A ∷ []) 4 (P ∷ Q ∷ []) refl refl refl refl (λ e. omega arith) (omega arith) (omega arith) refl
      (clean_of (0x9A ∷ []) refl refl) (omega arith) (omega arith);
  interleaved = meets mixed [] 1 (Q ∷ P ∷ opi ∷ sei ∷ Q' ∷ dci ∷ P' ∷ []) refl refl refl refl (λ e. omega arith) (omega arith) (omega arith) refl
      (clean_of [] refl refl) (omega arith) (omega arith);
  other_order = meets reordered [] 4 (Q ∷ P ∷ Q' ∷ P' ∷ opi ∷ sei ∷ dci ∷ []) refl refl refl refl (λ e. omega arith) (omega arith) (omega arith) refl
      (clean_of [] refl refl) (omega arith) (omega arith);
  two_inside_lem = meets C two_inside 4 (P ∷ Q ∷ []) refl refl refl refl (λ e. omega arith) (omega arith) (omega arith) refl
      (clean_of two_inside refl refl) (omega arith) (omega arith);
  two_splits = still_splits two_inside (clean_of two_inside refl refl);
  two_fails = refl;
}

-- ### their grouped units and streams

-- both PPS, both SPS, the OPI, the SEI and the DCI unit
abbrev pub in_groups : List (List ℕ)
in_groups = Q ∷ Q' ∷ P ∷ P' ∷ opi ∷ sei ∷ dci ∷ []

module _ {codes : StartCodes} {S : List ℕ} {pic : Picture} {tols : Option ℕ} where
  -- the grouped units of a path, by what computes from C
  grouped_is : {C : List ℕ} (p : Path codes C S pic tols) (gs : List (List ℕ)) → units_of (grouped (units_in C)) ≡ gs → p.grouped ≡ gs
  grouped_is {C} p gs e = one_order (units_in C) p.grouped (units_of (grouped (units_in C))) p.order (grouped_as (units_in C)) ∙ e

  -- the SPS and the PPS, in the order of the record
  pub worked_grouped : (p : Path codes C S pic tols) → p.grouped ≡ P ∷ Q ∷ []
  unfolding times be uint bytes chunk at_end compact_record having_type without firsts grouped units_of
  worked_grouped p = grouped_is p (P ∷ Q ∷ []) refl

  -- the second record has them in the order Q P OPI SEI Q' DCI P'
  pub interleaved_grouped : (p : Path codes mixed S pic tols) → p.grouped ≡ in_groups
  unfolding times be uint bytes chunk at_end compact_record having_type without firsts grouped units_of
  interleaved_grouped p = grouped_is p in_groups refl

  -- the third record has them in the order Q P Q' P' OPI SEI DCI
  pub reordered_grouped : (p : Path codes reordered S pic tols) → p.grouped ≡ in_groups
  unfolding times be uint bytes chunk at_end compact_record having_type without firsts grouped units_of
  reordered_grouped p = grouped_is p in_groups refl

  stream_is : {C : List ℕ} (p : Path codes C S pic tols) (gs : List (List ℕ)) → p.grouped ≡ gs
      → p.stream ≡ annex_b (code_of codes) (gs ++ ((0x00 ∷ 0x41 ∷ S) ∷ []))
  stream_is p gs e = p.is_stream ∙ rw e

-- the stream of the second and the third still
abbrev pub groups_four : List ℕ
groups_four =
    (0x00 ∷ 0x00 ∷ 0x00 ∷ 0x01 ∷ Q) ++ (0x00 ∷ 0x00 ∷ 0x00 ∷ 0x01 ∷ Q') ++ (0x00 ∷ 0x00 ∷ 0x00 ∷ 0x01 ∷ P) ++ (0x00 ∷ 0x00 ∷ 0x00 ∷ 0x01 ∷ P')
    ++ (0x00 ∷ 0x00 ∷ 0x00 ∷ 0x01 ∷ opi) ++ (0x00 ∷ 0x00 ∷ 0x00 ∷ 0x01 ∷ sei) ++ (0x00 ∷ 0x00 ∷ 0x00 ∷ 0x01 ∷ dci)
    ++ (0x00 ∷ 0x00 ∷ 0x00 ∷ 0x01 ∷ 0x00 ∷ 0x41 ∷ [])

-- with short codes the SEI unit, of type 23, and the picture, of type 8, are after 00 00 01
abbrev pub groups_short : List ℕ
groups_short =
    (0x00 ∷ 0x00 ∷ 0x00 ∷ 0x01 ∷ Q) ++ (0x00 ∷ 0x00 ∷ 0x00 ∷ 0x01 ∷ Q') ++ (0x00 ∷ 0x00 ∷ 0x00 ∷ 0x01 ∷ P) ++ (0x00 ∷ 0x00 ∷ 0x00 ∷ 0x01 ∷ P')
    ++ (0x00 ∷ 0x00 ∷ 0x00 ∷ 0x01 ∷ opi) ++ (0x00 ∷ 0x00 ∷ 0x01 ∷ sei) ++ (0x00 ∷ 0x00 ∷ 0x00 ∷ 0x01 ∷ dci)
    ++ (0x00 ∷ 0x00 ∷ 0x01 ∷ 0x00 ∷ 0x41 ∷ [])

module _ {pic : Picture} {tols : Option ℕ} where
  -- P, Q and 00 41 S
  pub worked_stream : {S : List ℕ} (p : Path Four C S pic tols)
      → p.stream ≡ (0x00 ∷ 0x00 ∷ 0x00 ∷ 0x01 ∷ P) ++ (0x00 ∷ 0x00 ∷ 0x00 ∷ 0x01 ∷ Q) ++ (0x00 ∷ 0x00 ∷ 0x00 ∷ 0x01 ∷ 0x00 ∷ 0x41 ∷ S)
  unfolding annex_b
  worked_stream {S} p = stream_is p (P ∷ Q ∷ []) (worked_grouped p) ∙ rw (append-nil S)

  pub worked_short : {S : List ℕ} (p : Path Short C S pic tols)
      → p.stream ≡ (0x00 ∷ 0x00 ∷ 0x00 ∷ 0x01 ∷ P) ++ (0x00 ∷ 0x00 ∷ 0x00 ∷ 0x01 ∷ Q) ++ (0x00 ∷ 0x00 ∷ 0x01 ∷ 0x00 ∷ 0x41 ∷ S)
  unfolding annex_b
  worked_short {S} p = stream_is p (P ∷ Q ∷ []) (worked_grouped p) ∙ rw (append-nil S)

  pub interleaved_stream : (p : Path Four mixed [] pic tols) → p.stream ≡ groups_four
  unfolding annex_b
  interleaved_stream p = stream_is p in_groups (interleaved_grouped p)

  pub interleaved_short : (p : Path Short mixed [] pic tols) → p.stream ≡ groups_short
  unfolding annex_b
  interleaved_short p = stream_is p in_groups (interleaved_grouped p)

  pub reordered_stream : (p : Path Four reordered [] pic tols) → p.stream ≡ groups_four
  unfolding annex_b
  reordered_stream p = stream_is p in_groups (reordered_grouped p)

  pub reordered_short : (p : Path Short reordered [] pic tols) → p.stream ≡ groups_short
  unfolding annex_b
  reordered_short p = stream_is p in_groups (reordered_grouped p)

-- ### the theorem for pairs of them, under either choice

pub different : mixed ≡ reordered → ⊥
different e = let n = ap (λ (l : List ℕ). get_or l 0 0) e in omega arith

module _ (codes : StartCodes) (pic pic' : Picture) (chroma : pic.chroma_format_idc ≤ 3) (depth : pic.bit_depth ≤ 15)
    (chroma' : pic'.chroma_format_idc ≤ 3) (depth' : pic'.bit_depth ≤ 15) (tols tols' : Option ℕ) where
  pub both : Paths codes C (0x9A ∷ []) mixed [] pic pic' tols tols'
  both = whole_path codes C (0x9A ∷ []) mixed [] instances.worked instances.interleaved pic pic' chroma depth chroma' depth' tols tols'

  -- different C with equal grouped units: the streams are equal
  pub alike : Paths codes mixed [] reordered [] pic pic' tols tols'
  alike = whole_path codes mixed [] reordered [] instances.interleaved instances.other_order pic pic' chroma depth chroma' depth' tols tols'

  pub same_streams : alike.first.stream ≡ alike.second.stream
  same_streams = alike.same.1 (refl, interleaved_grouped alike.first ∙ sym (reordered_grouped alike.second))

  -- 00 00 02 inside S: the last unit of the split is one that does not pass the unit check
  pub wider : Paths codes C two_inside C (0x9A ∷ []) pic pic' tols tols'
  wider = whole_path codes C two_inside C (0x9A ∷ []) instances.two_inside_lem instances.worked pic pic' chroma depth chroma' depth' tols tols'

  pub not_checked : checked (held wider.first.stream (get_or wider.first.spans (length (units_in C)) nowhere)) ≡ accept false
  not_checked = rw wider.first.last instances.two_fails
