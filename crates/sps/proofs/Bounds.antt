-- What an accepted SPS head says of its numbers.
use mathlib.Core.Path.{◌≡◌, refl, sym, ◌∙◌}
use mathlib.Core.Bool.{Bool, true, false}
use mathlib.Core.List.{List}
use Prim.Native.Nat.{ℕ, ◌+◌, ◌≤◌, ◌<◌}
use native.Mathlib.Omega.{arith}
use lib.Dec.{ltb}
use lib.ListN.{drop}
use borrow.Author.Tests.{ltb-false}
use Rattle.parse.specs.Outcome.{accept}
use Rattle.parse.specs.Parse.{value, refuse_if}
use Rattle.parse.proofs.Binds.{first_read}
use Rattle.rbsp.specs.Rbsp.{rbsp}
use Rattle.rbsp.proofs.Below.{Below, rbsp_below}
use Rattle.bit_reader.specs.Bits.{u, is_set, ue}
use Rattle.bit_reader.proofs.Numbers.{u_read}
use Rattle.ptl.specs.Ptl.{zero_ptl}
use Rattle.ptl.specs.declared.VvcPtlRecord.{VvcPtlRecord}
use Rattle.ptl_bits.proofs.Bounds.{Fits, ptl_fits_lem}
use Rattle.params.proofs.Units.{accepted}
use Rattle.sps.specs.Sps.{sps_head, parse_sps}
use Rattle.sps.specs.inner.Sections.{ids, ptl_where, size, window_where, depth, sps_head_of}
use Rattle.sps.specs.declared.SpsHead.{SpsHead}
use Rattle.sps.specs.declared.sections.SpsIds.{SpsIds}
use Rattle.sps.proofs.SpsSections.{sps_sections}

-- where there was no refusal its test failed
passed_test : (b : Bool) (n : ℕ) (s : List ℕ) (p : ℕ) {a : Unit {0}} {q : ℕ} → refuse_if b n s p ≡ value a q → b ≡ false
passed_test true n s p e = let z : ◌≡◌ {A = ℕ} 0 1 = cc in absurd (omega arith)
passed_test false n s p e = refl

-- the fields before the PTL: two bytes
pub record IdsBounds (p : ℕ) (i : SpsIds) (q : ℕ) : Type 0 where
  pub next : q ≡ p + 16
  pub sublayers : i.max_sublayers_minus1 ≤ 7
  pub chroma : i.chroma_format_idc < 4
  pub ctu_low : 5 ≤ i.log2_ctu_size
  pub ctu_high : i.log2_ctu_size ≤ 8

pub ids_bounds : (s : List ℕ) (p : ℕ) (i : SpsIds) (q : ℕ) → ids s p ≡ value i q → IdsBounds p i q
unfolding ids
ids_bounds s p i q e =
    first_read (u 4 s p) _ e (λ id p₁ h₁ e₁. first_read (u 4 s p₁) _ e₁ (λ vps p₂ h₂ e₂. first_read (u 3 s p₂) _ e₂ (λ m p₃ h₃ e₃.
    first_read (u 2 s p₃) _ e₃ (λ chroma p₄ h₄ e₄. first_read (u 2 s p₄) _ e₄ (λ ctu p₅ h₅ e₅. first_read (u 1 s p₅) _ e₅ (λ has_ptl p₆ h₆ e₆.
    let b : p₆ ≡ q = cc in
    let x : m ≡ i.max_sublayers_minus1 = cc in
    let y : chroma ≡ i.chroma_format_idc = cc in
    let z : ctu + 5 ≡ i.log2_ctu_size = cc in
    let r₁ = u_read 4 s p id p₁ h₁ in
    let r₂ = u_read 4 s p₁ vps p₂ h₂ in
    let r₃ = u_read 3 s p₂ m p₃ h₃ in
    let r₄ = u_read 2 s p₃ chroma p₄ h₄ in
    let r₅ = u_read 2 s p₄ ctu p₅ h₅ in
    let r₆ = u_read 1 s p₅ has_ptl p₆ h₆ in
    record { next = omega arith; sublayers = omega arith; chroma = omega arith; ctu_low = omega arith; ctu_high = omega arith }))))))

-- the bit depth minus 8
pub depth_bounds : (s : List ℕ) (p d q : ℕ) → depth s p ≡ value d q → d ≤ 8
unfolding depth
depth_bounds s p d q e =
    first_read (u 1 s p) _ e (λ b p₁ h₁ e₁. first_read (refuse_if (is_set b) 13 s p₁) _ e₁ (λ _ p₂ h₂ e₂.
    first_read (ue s p₂) _ e₂ (λ v p₃ h₃ e₃. first_read (refuse_if (ltb 8 v) 14 s p₃) _ e₃ (λ _ p₄ h₄ e₄.
    let x : v ≡ d = cc in
    omega (arith, ltb-false 8 v (passed_test (ltb 8 v) 14 s p₃ h₄))))))

-- ---- an SPS's head
pub record SpsFits (h : SpsHead) : Type 0 where
  pub sublayers : h.max_sublayers_minus1 ≤ 7
  pub chroma : h.chroma_format_idc < 4
  pub ctu_low : 5 ≤ h.log2_ctu_size
  pub ctu_high : h.log2_ctu_size ≤ 8
  pub depth_low : 8 ≤ h.bit_depth
  pub depth_high : h.bit_depth ≤ 16
  pub ptl_there : h.ptl_present_flag ≡ true → Fits h.max_sublayers_minus1 h.ptl
  pub ptl_none : h.ptl_present_flag ≡ false → h.ptl ≡ zero_ptl

ptl_where_lem : (b : Bool) (m : ℕ) (s : List ℕ) (p : ℕ) (l : VvcPtlRecord) (q : ℕ) → m ≤ 7 → Below 256 s → ptl_where b m s p ≡ value l q
    → (b ≡ true → Fits m l) × (b ≡ false → l ≡ zero_ptl)
ptl_where_lem true m s p l q h k e = (λ _. ptl_fits_lem m s p l q h k e, λ f. let z : ◌≡◌ {A = ℕ} 0 1 = cc in absurd (omega arith))
ptl_where_lem false m s p l q h k e = (λ f. let z : ◌≡◌ {A = ℕ} 0 1 = cc in absurd (omega arith), λ _. cc)

pub sps_fits : (s : List ℕ) (p : ℕ) (h : SpsHead) (q : ℕ) → Below 256 s → sps_head s p ≡ value h q → SpsFits h
sps_fits s p h q k e =
    first_read (ids s p) _ (sym (sps_sections s p) ∙ e) (λ i p₁ h₁ e₁.
    first_read (ptl_where i.ptl_present_flag i.max_sublayers_minus1 s p₁) _ e₁ (λ l p₂ h₂ e₂.
    first_read (size s p₂) _ e₂ (λ z p₃ h₃ e₃. first_read (window_where z.conformance_window_flag s p₃) _ e₃ (λ w p₄ h₄ e₄.
    first_read (depth s p₄) _ e₄ (λ d p₅ h₅ e₅.
    let x : sps_head_of i l z w d ≡ h = cc in
    let a = ids_bounds s p i p₁ h₁ in
    let b = ptl_where_lem i.ptl_present_flag i.max_sublayers_minus1 s p₁ l p₂ a.sublayers k h₂ in
    let c = depth_bounds s p₄ d p₅ h₅ in
    rw (← x)
    (record {
      sublayers = a.sublayers;
      chroma = a.chroma;
      ctu_low = a.ctu_low;
      ctu_high = a.ctu_high;
      depth_low = omega arith;
      depth_high = omega arith;
      ptl_there = b.0;
      ptl_none = b.1;
    }))))))

-- ---- of a unit
pub sps_unit_fits : (unit : List ℕ) (h : SpsHead) → Below 256 unit → parse_sps unit ≡ accept h → SpsFits h
unfolding parse_sps
sps_unit_fits unit h g e = let a = accepted 15 sps_head unit h e in sps_fits (rbsp (drop 2 unit)) 0 h a.end (rbsp_below 2 unit g) a.read
