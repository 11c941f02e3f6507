-- Laws of the bytes of a head: its parts stored one after the other.
use Prim.Native.Nat.{ℕ, ◌+◌, ◌*◌, ◌/◌, ◌%◌, ◌^◌}
use mathlib.Core.Path.{◌≡◌, refl, sym, ap, ◌∙◌}
use mathlib.Core.List.{List, ◌++◌}
use native.Mathlib.Omega.{arith}
use lib.ListN.{set}
use lib.Seq.{sets}
use Rattle.boxes.specs.Bytes.{to_be}
use Rattle.boxes.proofs.Numbers.{to_be_append}
use Rattle.hvcc.specs.Write.{profile_byte, layers_byte, hevc_head_bytes}
use Rattle.hvcc.specs.declared.HevcConfig.{HevcConfig}
use Rattle.hvcc_write.specs.inner.Parts.{profile_part, formats_part}

-- a number of two bytes and one of four, one after the other
two_stored : (d : List ℕ) (m n : ℕ) → sets (sets d 6 (to_be 2 m)) 8 (to_be 4 n) ≡ sets d 6 (to_be 2 m ++ to_be 4 n)
unfolding to_be
two_stored d m n = refl

-- a number of six bytes, stored as one of two and one of four
pub six_stored : (d : List ℕ) (v : ℕ) → sets (sets d 6 (to_be 2 (v / 4294967296))) 8 (to_be 4 (v % 4294967296)) ≡ sets d 6 (to_be 6 v)
six_stored d v =
    let e : v / 4294967296 * 256 ^ 4 + v % 4294967296 ≡ v = omega arith in
    let f : to_be 6 v ≡ to_be 2 (v / 4294967296) ++ to_be 4 (v % 4294967296) =
    ap (to_be 6) (sym e) ∙ to_be_append 2 4 (v / 4294967296) (v % 4294967296) (omega arith) in
    two_stored d (v / 4294967296) (v % 4294967296) ∙ ap (sets d 6) (sym f)

module _ (h : HevcConfig) (d : List ℕ) where
  pub profile_stored : (b : ℕ) → b ≡ profile_byte h
      → set (sets (sets (set (set d 0 1) 1 b) 2 (to_be 4 h.general_profile_compatibility_flags)) 6
      (to_be 6 h.general_constraint_indicator_flags)) 12 h.general_level_idc ≡ sets d 0 (profile_part h)
  unfolding to_be
  profile_stored b e = rw e refl

  pub formats_stored : set (set (set (set (sets d 13 (to_be 2 (61440 + h.min_spatial_segmentation_idc))) 15 (252 + h.parallelism_type)) 16
      (252 + h.chroma_format_idc)) 17 (248 + h.bit_depth_luma_minus8)) 18 (248 + h.bit_depth_chroma_minus8) ≡ sets d 13 (formats_part h)
  unfolding to_be
  formats_stored = refl

  pub head_stored : (b : ℕ) → b ≡ layers_byte h
      → set (sets (sets (sets d 0 (profile_part h)) 13 (formats_part h)) 19 (to_be 2 h.avg_frame_rate)) 21 b ≡ sets d 0 (hevc_head_bytes h)
  unfolding to_be hevc_head_bytes
  head_stored b e = rw e refl
