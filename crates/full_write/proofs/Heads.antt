-- Laws of the bytes of a head: its parts stored one after the other, and its length.
use Prim.Native.Nat.{ℕ, ◌+◌, ◌-◌, ◌*◌, ◌≤◌}
use mathlib.Core.Path.{◌≡◌, sym, ap, ◌∙◌, subst}
use mathlib.Core.Bool.{Bool, true, false}
use mathlib.Core.List.{List, [], ◌∷◌, ◌++◌, append_assoc}
use native.Mathlib.Omega.{arith}
use lib.ListN.{length, set, length-append}
use lib.Seq.{sets}
use Rattle.std.specs.Prelude.{if◌then◌else◌}
use Rattle.parse.specs.Logic.{bit}
use Rattle.parse.proofs.General.{both_true, sets_then}
use Rattle.boxes.specs.Bytes.{to_be}
use Rattle.boxes.proofs.Numbers.{length_to_be}
use Rattle.boxes.proofs.PrefixSizes.{size_fits}
use Rattle.ptl_record.specs.Write.{ptl_bytes}
use Rattle.full.specs.Write.{ptl_part, head_bytes, ptl_part_fits, head_fits}
use Rattle.full.specs.declared.VvcConfig.{VvcConfig}

-- three numbers of two bytes, stored one after the other
pub picture_stored : (d : List ℕ) (at x y z : ℕ)
    → sets (sets (sets d at (to_be 2 x)) (at + 2) (to_be 2 y)) (at + 4) (to_be 2 z) ≡ sets d at ((to_be 2 x ++ to_be 2 y) ++ to_be 2 z)
picture_stored d at x y z =
    let a = length_to_be 2 x in
    let b = length_to_be 2 y in
    let l = length-append (to_be 2 x) (to_be 2 y) in
    ap (λ (v : List ℕ). sets v (at + 4) (to_be 2 z)) (sets_then d at (at + 2) (to_be 2 x) (to_be 2 y) (omega arith))
    ∙ sets_then d at (at + 4) (to_be 2 x ++ to_be 2 y) (to_be 2 z) (omega arith)

-- the first two fields as one number
abbrev pub word : VvcConfig → ℕ
word h = h.ols_idx * 128 + h.num_sublayers * 16 + h.constant_frame_rate * 4 + h.chroma_format_idc

module _ (h : VvcConfig) where
  abbrev W : List ℕ
  W = to_be 2 (word h)

  abbrev D : List ℕ
  D = (h.bit_depth_minus8 * 32 + 31) ∷ []

  abbrev pub P : List ℕ
  P = ptl_bytes h.native_ptl h.num_sublayers

  abbrev X : List ℕ
  X = to_be 2 h.max_picture_width

  abbrev Y : List ℕ
  Y = to_be 2 h.max_picture_height

  abbrev Z : List ℕ
  Z = to_be 2 h.avg_frame_rate

  -- the fields under the flag, stored one after the other
  pub part_stored : (d : List ℕ) (at after : ℕ) → after ≡ at + 3 + length P
      → sets (sets (set (sets d at W) (at + 2) (h.bit_depth_minus8 * 32 + 31)) (at + 3) P) after ((X ++ Y) ++ Z) ≡ sets d at (ptl_part h)
  unfolding ptl_part
  part_stored d at after e =
      let w = length_to_be 2 (word h) in
      let l₁ = length-append W D in
      let l₂ = length-append (W ++ D) P in
      ap (λ (v : List ℕ). sets (sets v (at + 3) P) after ((X ++ Y) ++ Z)) (sets_then d at (at + 2) W D (omega arith))
      ∙ ap (λ (v : List ℕ). sets v after ((X ++ Y) ++ Z)) (sets_then d at (at + 3) (W ++ D) P (omega arith))
      ∙ sets_then d at after ((W ++ D) ++ P) ((X ++ Y) ++ Z) (omega arith)
      ∙ ap (sets d at) (sym (append_assoc ((W ++ D) ++ P) (X ++ Y) Z) ∙ ap (λ (v : List ℕ). v ++ Z) (sym (append_assoc ((W ++ D) ++ P) X Y)))

  -- what is known of a head that fits
  pub record HeadFits : Type 0 where
    pub one : 1 ≤ h.length_size
    pub four : h.length_size ≤ 4
    pub part : h.ptl_present_flag ≡ true → ptl_part_fits h ≡ true

  pub head_fits_lem : head_fits h ≡ true → HeadFits
  unfolding head_fits
  head_fits_lem e =
      let a = both_true _ _ e in
      let b = size_fits _ a.0 in
      record { one = b.0; four = b.1; part = λ f. subst (λ (t : Bool). (if t then ptl_part_fits h else true) ≡ true) f a.1 }

  -- the first byte
  abbrev pub first : ℕ
  first = 248 + (h.length_size - 1) * 2 + bit h.ptl_present_flag

  pub head_part : h.ptl_present_flag ≡ true → head_bytes h ≡ first ∷ ptl_part h
  unfolding head_bytes
  head_part e = ap (λ (t : Bool). first ∷ (if t then ptl_part h else [])) e

  pub head_plain : h.ptl_present_flag ≡ false → head_bytes h ≡ first ∷ []
  unfolding head_bytes
  head_plain e = ap (λ (t : Bool). first ∷ (if t then ptl_part h else [])) e
