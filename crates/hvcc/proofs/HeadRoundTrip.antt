-- The head of an HEVC record read after it was written.
use Prim.Native.Nat.{ℕ, ◌+◌, ◌/◌, ◌%◌, ◌^◌, ◌≤◌, ◌<◌}
use native.Mathlib.Omega.{arith}
use mathlib.Core.Path.{◌≡◌, refl, sym, ◌∙◌}
use mathlib.Core.Bool.{Bool, true, false}
use mathlib.Core.List.{List, [], ◌∷◌, ◌++◌, append_assoc}
use lib.Dec.{eqb}
use lib.ListN.{length, length-append}
use borrow.Author.Tests.{leb-true, ltb-true}
use Rattle.parse.specs.Logic.{bit}
use Rattle.parse.specs.Parse.{value}
use Rattle.parse.proofs.General.{both_true, bit_le}
use Rattle.boxes.specs.Bytes.{to_be, uint}
use Rattle.boxes.proofs.Numbers.{length_to_be}
use Rattle.boxes.proofs.PrefixSizes.{size_fits}
use Rattle.record_arrays.proofs.ArraysRoundTrip.{byte_there, number_there}
use Rattle.hvcc.specs.Read.{hevc_head}
use Rattle.hvcc.specs.Write.{profile_byte, layers_byte, hevc_head_bytes, hevc_head_fits}
use Rattle.hvcc.specs.RoundTrip.{Typed}
use Rattle.hvcc.specs.declared.HevcConfig.{HevcConfig}

-- every value that could be wider than its field fits it
pub record Small (h : HevcConfig) : Type 0 where
  pub space : h.general_profile_space ≤ 3
  pub profile : h.general_profile_idc ≤ 31
  pub constraints : h.general_constraint_indicator_flags < 2 ^ 48
  pub segmentation : h.min_spatial_segmentation_idc ≤ 4095
  pub parallelism : h.parallelism_type ≤ 3
  pub chroma : h.chroma_format_idc ≤ 3
  pub luma : h.bit_depth_luma_minus8 ≤ 7
  pub depth : h.bit_depth_chroma_minus8 ≤ 7
  pub rate : h.constant_frame_rate ≤ 3
  pub layers : h.num_temporal_layers ≤ 7
  pub one : 1 ≤ h.length_size
  pub four : h.length_size ≤ 4

pub small : (h : HevcConfig) → hevc_head_fits h ≡ true → Small h
unfolding hevc_head_fits
small h e =
    let a = both_true _ _ e in
    let b = both_true _ _ a.1 in
    let c = both_true _ _ b.1 in
    let d = both_true _ _ c.1 in
    let f = both_true _ _ d.1 in
    let g = both_true _ _ f.1 in
    let i = both_true _ _ g.1 in
    let j = both_true _ _ i.1 in
    let k = both_true _ _ j.1 in
    let l = both_true _ _ k.1 in
    let m = size_fits _ l.1 in
    record {
      space = leb-true _ _ a.0;
      profile = leb-true _ _ b.0;
      constraints = ltb-true _ _ c.0;
      segmentation = leb-true _ _ d.0;
      parallelism = leb-true _ _ f.0;
      chroma = leb-true _ _ g.0;
      luma = leb-true _ _ i.0;
      depth = leb-true _ _ j.0;
      rate = leb-true _ _ k.0;
      layers = leb-true _ _ l.0;
      one = m.0;
      four = m.1;
    }

pub length_head : (h : HevcConfig) → length (hevc_head_bytes h) ≡ 22
unfolding hevc_head_bytes
length_head h = simp (length-append, length_to_be) refl

-- the bytes of s from place p on
record From (s : List ℕ) (p : ℕ) (rest : List ℕ) : Type 0 where
  before : List ℕ
  is : s ≡ before ++ rest
  long : length before ≡ p

-- a field that is read there, and the bytes after it
record Reads (s : List ℕ) (p w n : ℕ) (rest : List ℕ) : Type 0 where
  there : uint w s p ≡ value n (p + w)
  next : From s (p + w) rest

module _ (s : List ℕ) where
  reads_byte : (p b : ℕ) (rest : List ℕ) → From s p (b ∷ rest) → Reads s p 1 b rest
  reads_byte p b rest f = record {
    there = byte_there s f.before rest b p f.is f.long;
    next = record {
      before = f.before ++ (b ∷ []);
      is = f.is ∙ sym (append_assoc f.before (b ∷ []) rest);
      long = omega (arith, length-append f.before (b ∷ []), f.long);
    };
  }

  reads_number : (p w n : ℕ) (rest : List ℕ) → n < 256 ^ w → From s p (to_be w n ++ rest) → Reads s p w n rest
  reads_number p w n rest h f = record {
    there = number_there w s f.before rest n p f.is f.long h;
    next = record {
      before = f.before ++ to_be w n;
      is = f.is ∙ sym (append_assoc f.before (to_be w n) rest);
      long = omega (arith, length-append f.before (to_be w n), length_to_be w n, f.long);
    };
  }

bit_is : (c : Bool) → eqb (bit c) 1 ≡ c
bit_is true = refl
bit_is false = refl

module _ (h : HevcConfig) (typed : Typed h) (sm : Small h) (s post : List ℕ) (e : s ≡ hevc_head_bytes h ++ post) where
  -- the flags as numbers
  abbrev tier : ℕ
  tier = bit h.general_tier_flag

  abbrev nested : ℕ
  nested = bit h.temporal_id_nested

  whole : From s 0 (1 ∷ profile_byte h ∷ (to_be 4 h.general_profile_compatibility_flags ++ (to_be 6 h.general_constraint_indicator_flags
      ++ (h.general_level_idc ∷ (to_be 2 (61440 + h.min_spatial_segmentation_idc)
      ++ ((252 + h.parallelism_type) ∷ (252 + h.chroma_format_idc) ∷ (248 + h.bit_depth_luma_minus8) ∷ (248 + h.bit_depth_chroma_minus8)
      ∷ (to_be 2 h.avg_frame_rate ++ (layers_byte h ∷ post))))))))
  unfolding hevc_head_bytes
  whole = record { before = []; is = e ∙ simp append_assoc; long = refl }

  -- each field again, from the number that holds it
  space_back : profile_byte h / 64 ≡ h.general_profile_space
  space_back = let a = sm.space in let b = sm.profile in omega (arith, bit_le h.general_tier_flag)

  tier_back : eqb (profile_byte h / 32 % 2) 1 ≡ h.general_tier_flag
  tier_back =
      let a = sm.space in let b = sm.profile in
      let c : profile_byte h / 32 % 2 ≡ tier = omega (arith, bit_le h.general_tier_flag) in
      rw c (bit_is h.general_tier_flag)

  profile_back : profile_byte h % 32 ≡ h.general_profile_idc
  profile_back = let a = sm.space in let b = sm.profile in omega (arith, bit_le h.general_tier_flag)

  constant_back : layers_byte h / 64 ≡ h.constant_frame_rate
  constant_back = let a = sm.layers in let b = sm.four in omega (arith, bit_le h.temporal_id_nested)

  layers_back : layers_byte h / 8 % 8 ≡ h.num_temporal_layers
  layers_back = let a = sm.layers in let b = sm.four in omega (arith, bit_le h.temporal_id_nested)

  nested_back : eqb (layers_byte h / 4 % 2) 1 ≡ h.temporal_id_nested
  nested_back =
      let a = sm.layers in let b = sm.four in
      let c : layers_byte h / 4 % 2 ≡ nested = omega (arith, bit_le h.temporal_id_nested) in
      rw c (bit_is h.temporal_id_nested)

  size_back : layers_byte h % 4 + 1 ≡ h.length_size
  size_back = let a = sm.one in let b = sm.four in omega (arith, bit_le h.temporal_id_nested)

  pub head_read_lem : hevc_head s 0 ≡ value h 22
  unfolding hevc_head
  head_read_lem =
      let version = reads_byte s 0 _ _ whole in
      let profile = reads_byte s 1 _ _ version.next in
      let compatibility = reads_number s 2 4 _ _ (omega (arith, typed.compatibility)) profile.next in
      let constraints = reads_number s 6 6 _ _ (omega (arith, sm.constraints)) compatibility.next in
      let level = reads_byte s 12 _ _ constraints.next in
      let segmentation = reads_number s 13 2 _ _ (omega (arith, sm.segmentation)) level.next in
      let parallelism = reads_byte s 15 _ _ segmentation.next in
      let chroma = reads_byte s 16 _ _ parallelism.next in
      let luma = reads_byte s 17 _ _ chroma.next in
      let depth = reads_byte s 18 _ _ luma.next in
      let rate = reads_number s 19 2 _ _ (omega (arith, typed.rate)) depth.next in
      let layers = reads_byte s 21 _ _ rate.next in
      let segment_back : (61440 + h.min_spatial_segmentation_idc) % 4096 ≡ h.min_spatial_segmentation_idc = omega (arith, sm.segmentation) in
      let parallelism_back : (252 + h.parallelism_type) % 4 ≡ h.parallelism_type = omega (arith, sm.parallelism) in
      let chroma_back : (252 + h.chroma_format_idc) % 4 ≡ h.chroma_format_idc = omega (arith, sm.chroma) in
      let luma_back : (248 + h.bit_depth_luma_minus8) % 8 ≡ h.bit_depth_luma_minus8 = omega (arith, sm.luma) in
      let depth_back : (248 + h.bit_depth_chroma_minus8) % 8 ≡ h.bit_depth_chroma_minus8 = omega (arith, sm.depth) in
      rw (
        version.there,
        profile.there,
        compatibility.there,
        constraints.there,
        level.there,
        segmentation.there,
        parallelism.there,
        chroma.there,
        luma.there,
        depth.there,
        rate.there,
        layers.there,
      )
      (rw (
        space_back,
        tier_back,
        profile_back,
        segment_back,
        parallelism_back,
        chroma_back,
        luma_back,
        depth_back,
        constant_back,
        layers_back,
        nested_back,
        size_back,
      ))
