-- A full record read after it was written: the head and list, and as many bytes consumed as were written.
use Prim.Native.Nat.{ℕ, ◌+◌, ◌^◌, ◌≤◌}
use native.Mathlib.Omega.{arith}
use mathlib.Core.Path.{◌≡◌, refl, sym, ap, ◌∙◌, subst}
use mathlib.Core.Bool.{Bool, true, false, not}
use mathlib.Core.List.{List, [], ◌∷◌}
use lib.Dec.{leb, eqb}
use lib.ListN.{length}
use borrow.Author.Tests.{le-leb, eqb-false}
use Rattle.std.specs.Prelude.{if◌then◌else◌}
use Rattle.parse.specs.Outcome.{accept, refuse}
use Rattle.parse.specs.Parse.{value}
use Rattle.unit_list.specs.UnitList.{Array, encode}
use Rattle.unit_list.proofs.Arrays.{Sound}
use Rattle.record_arrays.specs.Write.{arrays_bytes, arrays_fit}
use Rattle.record_arrays.specs.declared.Codec.TheVariants.{Vvc}
use Rattle.ptl.specs.declared.VvcPtlRecord.{VvcPtlRecord}
use Rattle.full.specs.Read.{vvc_head, vvc_record, parse_full}
use Rattle.ptl_record.specs.AsWritten.{as_written}
use Rattle.ptl_record.proofs.AsWritten.{Canonical, kept}
use Rattle.ptl_record.proofs.RoundTrip as P
use Rattle.full.specs.Write.{head_bytes, ptl_part_fits, head_fits, full_bytes, record_fits, write_full}
use Rattle.full.specs.RoundTrip.{with_ptl, read_back}
pub use Rattle.full.specs.RoundTrip.{Typed}
unfoldable pub use Rattle.full.specs.RoundTrip.{head_read}
use Rattle.full.specs.declared.VvcConfig.{VvcConfig}
use Rattle.record_arrays.proofs.RecordRead.{headed_bytes, from_head, headed_read, headed_held}
use Rattle.full.proofs.HeadRoundTrip.{ReadsAs, small, Writable, head_read_lem}
use Rattle.parse.proofs.General.{both_true}
use Rattle.boxes.specs.Bytes.{outside}

module _ (h : VvcConfig) (q : VvcPtlRecord) (xs : List (Array (List ℕ))) (w : Writable h q) (sound : Sound xs) (fits : record_fits h xs ≡ true) where
  arrays_fit_lem : arrays_fit Vvc xs ≡ true
  unfolding record_fits
  arrays_fit_lem = let a = both_true (head_fits h) _ fits in (both_true (leb (length xs) 255) _ a.1).1

  head_first : vvc_head (headed_bytes Vvc (head_bytes h) xs) 0 ≡ value (read_back h.ptl_present_flag h q) (length (head_bytes h))
  head_first =
      let c : 0 + length (head_bytes h) ≡ length (head_bytes h) = omega arith in
      head_read_lem h q w (headed_bytes Vvc (head_bytes h) xs) [] (length xs ∷ arrays_bytes Vvc xs) 0 (from_head Vvc (head_bytes h) xs) refl ∙ rw c

  pub read_written : length (full_bytes h xs) ≤ 2 ^ 30
      → parse_full (full_bytes h xs)
      ≡ accept (
        record { head = read_back h.ptl_present_flag h q; consumed = length (full_bytes h xs); list_length = length (encode xs) },
        encode xs,
      )
  unfolding parse_full vvc_record full_bytes
  read_written l = rw (
    le-leb (length (headed_bytes Vvc (head_bytes h) xs)) (2 ^ 30) l,
    headed_read Vvc (head_bytes h) xs sound arrays_fit_lem vvc_head _ head_first,
    headed_held Vvc (head_bytes h) xs sound arrays_fit_lem,
  )

module _ (h : VvcConfig) (t : Typed h) (xs : List (Array (List ℕ))) (sound : Sound xs) where
  fitting_parts : record_fits h xs ≡ true → head_fits h ≡ true
  unfolding record_fits
  fitting_parts e = (both_true (head_fits h) _ e).0

  ptl_part_lem : head_fits h ≡ true → h.ptl_present_flag ≡ true → ptl_part_fits h ≡ true
  unfolding head_fits
  ptl_part_lem e f =
      let a = both_true (not (outside h.length_size)) _ e in
      subst (λ (c : Bool). (if c then ptl_part_fits h else true) ≡ true) f a.1

  reads : head_fits h ≡ true → h.ptl_present_flag ≡ true
      → ReadsAs h.native_ptl h.num_sublayers (as_written h.native_ptl h.num_sublayers)
  reads e f =
      let s = small h (ptl_part_lem e f) in
      P.round_trip h.native_ptl (record { fits = s.ptl; info_is = t.info; subs_are = t.subs; subs_small = t.subs_small })
      h.num_sublayers s.sublayers

  -- for every head and arrays that are accepted
  pub read_after_write : (b : List ℕ) → write_full h xs ≡ accept b → length b ≤ 2 ^ 30
      → parse_full b ≡ accept (record { head = head_read h; consumed = length b; list_length = length (encode xs) }, encode xs)
  unfolding write_full
  read_after_write b e l = go (eqb h.length_size 3) refl (record_fits h xs) refl e
    where
      go : (c : Bool) → eqb h.length_size 3 ≡ c → (d : Bool) → record_fits h xs ≡ d
          → (if c then refuse 3 else (if d then accept (full_bytes h xs) else refuse 22)) ≡ accept b
          → parse_full b ≡ accept (record { head = head_read h; consumed = length b; list_length = length (encode xs) }, encode xs)
      go true c d f x = let z : ◌≡◌ {A = ℕ} 0 1 = cc in absurd (omega arith)
      go false c false f x = let z : ◌≡◌ {A = ℕ} 0 1 = cc in absurd (omega arith)
      go false c true f x =
          let is : full_bytes h xs ≡ b = cc in
          let w : Writable h (as_written h.native_ptl h.num_sublayers) =
          record { fits = fitting_parts f; size = eqb-false h.length_size 3 c; wide = t.wide; reads = reads (fitting_parts f) } in
          subst (λ (v : List ℕ). length v ≤ 2 ^ 30
          → parse_full v ≡ accept (record { head = head_read h; consumed = length v; list_length = length (encode xs) }, encode xs)) is
          (read_written h (as_written h.native_ptl h.num_sublayers) xs w sound f) l

-- a head with the flag and a PTL as it is read is read unchanged
pub head_kept : (h : VvcConfig) → h.ptl_present_flag ≡ true → Canonical h.native_ptl h.num_sublayers → head_read h ≡ h
head_kept h f c =
    let q = kept h.native_ptl h.num_sublayers c in
    subst (λ (b : Bool). read_back b h (as_written h.native_ptl h.num_sublayers) ≡ h) (sym f)
    (ap (with_ptl h) q ∙ whole h f)
  where
    whole : (h : VvcConfig) → h.ptl_present_flag ≡ true → with_ptl h h.native_ptl ≡ h
    whole h f = let g = sym f in λ i. record {
      length_size = h.length_size;
      ptl_present_flag = g i;
      ols_idx = h.ols_idx;
      num_sublayers = h.num_sublayers;
      constant_frame_rate = h.constant_frame_rate;
      chroma_format_idc = h.chroma_format_idc;
      bit_depth_minus8 = h.bit_depth_minus8;
      native_ptl = h.native_ptl;
      max_picture_width = h.max_picture_width;
      max_picture_height = h.max_picture_height;
      avg_frame_rate = h.avg_frame_rate;
    }
