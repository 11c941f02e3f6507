-- The head of a full record read after it was written.
use Prim.Native.Nat.{ℕ, ◌+◌, ◌-◌, ◌*◌, ◌/◌, ◌%◌, ◌^◌, ◌≤◌, ◌<◌}
use native.Mathlib.Omega.{arith}
use mathlib.Core.Path.{◌≡◌, refl, sym, ap, ◌∙◌, subst}
use mathlib.Core.Bool.{Bool, true, false}
use mathlib.Core.List.{List, [], ◌∷◌, ◌++◌, append_assoc}
use lib.Dec.{eqb}
use lib.ListN.{length, length-append}
use borrow.Author.Tests.{leb-true, ne_eqb}
use Rattle.std.specs.Prelude.{if◌then◌else◌}
use Rattle.parse.specs.Logic.{bit}
use Rattle.parse.specs.Parse.{value}
use Rattle.boxes.specs.Bytes.{to_be}
use Rattle.boxes.proofs.Numbers.{length_to_be}
use Rattle.ptl.specs.declared.VvcPtlRecord.{VvcPtlRecord}
use Rattle.ptl_record.specs.Read.{vvc_ptl_record}
use Rattle.ptl_record.specs.Write.{ptl_bytes, ptl_fits}
use Rattle.full.specs.Read.{plain_head, head_with_ptl, vvc_head}
use Rattle.full.specs.Write.{ptl_part, head_bytes, ptl_part_fits, head_fits}
use Rattle.full.specs.RoundTrip.{Wide, read_back}
unfoldable pub use Rattle.full.specs.RoundTrip.{with_ptl}
use Rattle.full.specs.declared.VvcConfig.{VvcConfig}
use Rattle.record_arrays.proofs.ArraysRoundTrip.{byte_there, number_there}
use Rattle.parse.proofs.General.{both_true, bit_le}
use Rattle.boxes.proofs.PrefixSizes.{size_fits}

-- PTL p, written with n sublayers, is read as q
abbrev pub ReadsAs : VvcPtlRecord → ℕ → VvcPtlRecord → Type 0
ReadsAs p sublayers q = (pre post : List ℕ)
    → vvc_ptl_record sublayers (pre ++ (ptl_bytes p sublayers ++ post)) (length pre) ≡ value q (length pre + length (ptl_bytes p sublayers))

-- every value under the flag fits its field
pub record Small (h : VvcConfig) : Type 0 where
  pub ols : h.ols_idx ≤ 511
  pub sublayers : h.num_sublayers ≤ 7
  pub rate : h.constant_frame_rate ≤ 3
  pub chroma : h.chroma_format_idc ≤ 3
  pub depth : h.bit_depth_minus8 ≤ 7
  pub ptl : ptl_fits h.native_ptl ≡ true

pub small : (h : VvcConfig) → ptl_part_fits h ≡ true → Small h
unfolding ptl_part_fits
small h e =
    let a = both_true _ _ e in
    let b = both_true _ _ a.1 in
    let c = both_true _ _ b.1 in
    let d = both_true _ _ c.1 in
    let f = both_true _ _ d.1 in
    record {
      ols = leb-true _ _ a.0;
      sublayers = leb-true _ _ b.0;
      rate = leb-true _ _ c.0;
      chroma = leb-true _ _ d.0;
      depth = leb-true _ _ f.0;
      ptl = f.1;
    }

-- the first two fields as one number
abbrev word : VvcConfig → ℕ
word h = h.ols_idx * 128 + h.num_sublayers * 16 + h.constant_frame_rate * 4 + h.chroma_format_idc

pub length_part : (h : VvcConfig) → length (ptl_part h) ≡ 9 + length (ptl_bytes h.native_ptl h.num_sublayers)
unfolding ptl_part
length_part h = simp (length-append, length_to_be) (omega arith)

module _ (h : VvcConfig) (q : VvcPtlRecord) (sm : Small h) (wide : Wide h) (reads : ReadsAs h.native_ptl h.num_sublayers q)
    (s pre post : List ℕ) (p : ℕ) (e : s ≡ pre ++ (ptl_part h ++ post)) (l : length pre ≡ p) where
  abbrev ptl_of : List ℕ
  ptl_of = ptl_bytes h.native_ptl h.num_sublayers

  abbrev dims : List ℕ
  dims = to_be 2 h.max_picture_width ++ (to_be 2 h.max_picture_height ++ (to_be 2 h.avg_frame_rate ++ post))

  -- s is its parts, one after the other
  whole : s ≡ pre ++ (to_be 2 (word h) ++ ((h.bit_depth_minus8 * 32 + 31) ∷ (ptl_of ++ dims)))
  unfolding ptl_part
  whole = e ∙ ap (λ (x : List ℕ). pre ++ x) (simp append_assoc)

  e1 : s ≡ (pre ++ to_be 2 (word h)) ++ ((h.bit_depth_minus8 * 32 + 31) ∷ (ptl_of ++ dims))
  e1 = whole ∙ sym (append_assoc pre (to_be 2 (word h)) ((h.bit_depth_minus8 * 32 + 31) ∷ (ptl_of ++ dims)))

  l1 : length (pre ++ to_be 2 (word h)) ≡ p + 2
  l1 = omega (arith, length-append pre (to_be 2 (word h)), length_to_be 2 (word h))

  abbrev pre2 : List ℕ
  pre2 = (pre ++ to_be 2 (word h)) ++ ((h.bit_depth_minus8 * 32 + 31) ∷ [])

  e2 : s ≡ pre2 ++ (ptl_of ++ dims)
  e2 = e1 ∙ sym (append_assoc (pre ++ to_be 2 (word h)) ((h.bit_depth_minus8 * 32 + 31) ∷ []) (ptl_of ++ dims))

  l2 : length pre2 ≡ p + 3
  l2 = omega (arith, length-append (pre ++ to_be 2 (word h)) ((h.bit_depth_minus8 * 32 + 31) ∷ []), l1)

  abbrev pre3 : List ℕ
  pre3 = pre2 ++ ptl_of

  e3 : s ≡ pre3 ++ dims
  e3 = e2 ∙ sym (append_assoc pre2 ptl_of dims)

  l3 : length pre3 ≡ p + 3 + length ptl_of
  l3 = omega (arith, length-append pre2 ptl_of, l2)

  abbrev pre4 : List ℕ
  pre4 = pre3 ++ to_be 2 h.max_picture_width

  e4 : s ≡ pre4 ++ (to_be 2 h.max_picture_height ++ (to_be 2 h.avg_frame_rate ++ post))
  e4 = e3 ∙ sym (append_assoc pre3 (to_be 2 h.max_picture_width) (to_be 2 h.max_picture_height ++ (to_be 2 h.avg_frame_rate ++ post)))

  l4 : length pre4 ≡ p + 3 + length ptl_of + 2
  l4 = omega (arith, length-append pre3 (to_be 2 h.max_picture_width), length_to_be 2 h.max_picture_width, l3)

  e5 : s ≡ (pre4 ++ to_be 2 h.max_picture_height) ++ (to_be 2 h.avg_frame_rate ++ post)
  e5 = e4 ∙ sym (append_assoc pre4 (to_be 2 h.max_picture_height) (to_be 2 h.avg_frame_rate ++ post))

  l5 : length (pre4 ++ to_be 2 h.max_picture_height) ≡ p + 3 + length ptl_of + 2 + 2
  l5 = omega (arith, length-append pre4 (to_be 2 h.max_picture_height), length_to_be 2 h.max_picture_height, l4)

  ptl_there : vvc_ptl_record h.num_sublayers s (p + 3) ≡ value q (p + 3 + length ptl_of)
  ptl_there = rw (e2, ← l2) (reads pre2 dims)

  word_small : word h < 256 ^ 2
  word_small = let a = sm.ols in let b = sm.sublayers in let c = sm.rate in let d = sm.chroma in omega arith

  pub part_read : head_with_ptl h.length_size s p ≡ value (with_ptl h q) (p + length (ptl_part h))
  unfolding head_with_ptl
  part_read =
      let a = sm.ols in let b = sm.sublayers in let c = sm.rate in let d = sm.chroma in let f = sm.depth in
      let ols : word h / 128 ≡ h.ols_idx = omega arith in
      let subl : word h / 16 % 8 ≡ h.num_sublayers = omega arith in
      let cfr : word h / 4 % 4 ≡ h.constant_frame_rate = omega arith in
      let chroma : word h % 4 ≡ h.chroma_format_idc = omega arith in
      let depth : (h.bit_depth_minus8 * 32 + 31) / 32 ≡ h.bit_depth_minus8 = omega arith in
      let end : p + 3 + length ptl_of + 2 + 2 + 2 ≡ p + length (ptl_part h) = omega (arith, length_part h) in
      rw (number_there 2 s pre ((h.bit_depth_minus8 * 32 + 31) ∷ (ptl_of ++ dims)) (word h) p whole l word_small)
      (rw (byte_there s (pre ++ to_be 2 (word h)) (ptl_of ++ dims) (h.bit_depth_minus8 * 32 + 31) (p + 2) e1 l1)
      (let z : p + 2 + 1 ≡ p + 3 = omega arith in
      rw (
        z,
        subl,
        ptl_there,
        number_there 2 s pre3 (to_be 2 h.max_picture_height ++ (to_be 2 h.avg_frame_rate ++ post)) h.max_picture_width
            (p + 3 + length ptl_of) e3 l3 wide.width,
        number_there 2 s pre4 (to_be 2 h.avg_frame_rate ++ post) h.max_picture_height (p + 3 + length ptl_of + 2) e4 l4 wide.height,
        number_there 2 s (pre4 ++ to_be 2 h.max_picture_height) post h.avg_frame_rate (p + 3 + length ptl_of + 2 + 2) e5 l5 wide.rate,
        ols,
        cfr,
        chroma,
        depth,
        end,
      )))

-- a head that is read again, with the flag and without
pub record Writable (h : VvcConfig) (q : VvcPtlRecord) : Type 0 where
  pub fits : head_fits h ≡ true
  pub size : h.length_size ≡ 3 → ⊥
  pub wide : Wide h
  pub reads : h.ptl_present_flag ≡ true → ReadsAs h.native_ptl h.num_sublayers q

module _ (h : VvcConfig) (q : VvcPtlRecord) (w : Writable h q) (s pre post : List ℕ) (p : ℕ) (e : s ≡ pre ++ (head_bytes h ++ post))
    (l : length pre ≡ p) where
  abbrev first_byte : ℕ
  first_byte = 248 + (h.length_size - 1) * 2 + bit h.ptl_present_flag

  parts : (1 ≤ h.length_size) × (h.length_size ≤ 4) × ((if h.ptl_present_flag then ptl_part_fits h else true) ≡ true)
  unfolding head_fits
  parts = let a = both_true _ _ w.fits in let b = size_fits _ a.0 in (b.0, b.1, a.1)

  size_minus : first_byte / 2 % 4 ≡ h.length_size - 1
  size_minus = let a = parts.0 in let b = parts.1 in omega (arith, bit_le h.ptl_present_flag)

  flag_bit : first_byte % 2 ≡ bit h.ptl_present_flag
  flag_bit = omega (arith, bit_le h.ptl_present_flag)

  size_back : first_byte / 2 % 4 + 1 ≡ h.length_size
  size_back = let a = parts.0 in omega (arith, size_minus)

  not_three : eqb (first_byte / 2 % 4) 2 ≡ false
  not_three = ne_eqb (first_byte / 2 % 4) 2 (λ (z : first_byte / 2 % 4 ≡ 2). w.size (let a = parts.0 in omega (arith, size_minus)))

  abbrev announced : Bool → List ℕ
  announced c = if c then ptl_part h else []

  split : s ≡ pre ++ (first_byte ∷ (announced h.ptl_present_flag ++ post))
  unfolding head_bytes
  split = e

  under : (c : Bool) → h.ptl_present_flag ≡ c
      → (if eqb (bit c) 1 then head_with_ptl h.length_size else (λ s p. value (plain_head h.length_size) p)) s (p + 1)
      ≡ value (read_back c h q) (p + 1 + length (announced c))
  under true c =
      let f : ptl_part_fits h ≡ true = subst (λ (d : Bool). (if d then ptl_part_fits h else true) ≡ true) c parts.2 in
      let g : s ≡ (pre ++ (first_byte ∷ [])) ++ (ptl_part h ++ post) =
      subst (λ (d : Bool). s ≡ pre ++ (first_byte ∷ (announced d ++ post))) c split ∙ sym (append_assoc pre (first_byte ∷ []) (ptl_part h ++ post)) in
      part_read h q (small h f) w.wide (w.reads c) s (pre ++ (first_byte ∷ [])) post (p + 1) g (omega (arith, length-append pre (first_byte ∷ [])))
  under false c = ap (value (plain_head h.length_size)) (omega arith)

  length_head : length (head_bytes h) ≡ 1 + length (announced h.ptl_present_flag)
  unfolding head_bytes
  length_head = omega arith

  pub head_read_lem : vvc_head s p ≡ value (read_back h.ptl_present_flag h q) (p + length (head_bytes h))
  unfolding vvc_head
  head_read_lem =
      let z : p + 1 + length (announced h.ptl_present_flag) ≡ p + length (head_bytes h) = omega (arith, length_head) in
      rw (byte_there s pre (announced h.ptl_present_flag ++ post) first_byte p split l)
      (rw (not_three, flag_bit, size_back)
      (under h.ptl_present_flag refl ∙ rw z))
