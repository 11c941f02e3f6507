-- What holds of the numbers of an accepted first PTL of a VPS.
use mathlib.Core.Path.{◌≡◌, sym, subst}
use mathlib.Core.Bool.{not}
use mathlib.Core.List.{List}
use Prim.Native.Nat.{ℕ, ◌≤◌}
use native.Mathlib.Omega.{arith}
use lib.Dec.{eqb}
use lib.ListN.{drop}
use Rattle.parse.specs.Outcome.{accept}
use Rattle.parse.specs.Parse.{value, refuse_if}
use Rattle.parse.proofs.Binds.{first_read}
use Rattle.rbsp.specs.Rbsp.{rbsp}
use Rattle.rbsp.proofs.Below.{Below, rbsp_below}
use Rattle.bit_reader.specs.Bits.{u, align}
use Rattle.bit_reader.proofs.Numbers.{u_read}
use Rattle.ptl.specs.declared.VvcPtlRecord.{VvcPtlRecord}
use Rattle.ptl_bits.proofs.Bounds.{Fits, ptl_fits_lem}
use Rattle.params.proofs.Units.{accepted}
use Rattle.vps.specs.Vps.{vps_ptl, vps_first_ptl}

-- for some count of sublayers
pub vps_fits : (s : List ℕ) (p : ℕ) (r : VvcPtlRecord) (q : ℕ) → Below 256 s → vps_ptl s p ≡ value r q
    → (r.num_sublayer_levels ≤ 7) × Fits r.num_sublayer_levels r
unfolding vps_ptl
vps_fits s p r q k e =
    first_read (u 4 s p) _ e (λ id p₁ h₁ e₁. first_read (u 6 s p₁) _ e₁ (λ layers p₂ h₂ e₂. first_read (u 3 s p₂) _ e₂ (λ m p₃ h₃ e₃.
    first_read (refuse_if (not (eqb layers 0)) 15 s p₃) _ e₃ (λ _ p₄ h₄ e₄. first_read (u 6 s p₄) _ e₄ (λ layer p₅ h₅ e₅.
    first_read (align s p₅) _ e₅ (λ _ p₆ h₆ e₆.
    let b : m ≤ 7 = omega (arith, u_read 3 s p₂ m p₃ h₃) in
    let f = ptl_fits_lem m s p₆ r q b k e₆ in
    (omega (arith, f.levels_count), subst (λ (n : ℕ). Fits n r) (sym f.levels_count) f)))))))

-- of a unit
pub vps_unit_fits : (unit : List ℕ) (r : VvcPtlRecord) → Below 256 unit → vps_first_ptl unit ≡ accept r
    → (r.num_sublayer_levels ≤ 7) × Fits r.num_sublayer_levels r
unfolding vps_first_ptl
vps_unit_fits unit r g e = let a = accepted 14 vps_ptl unit r e in vps_fits (rbsp (drop 2 unit)) 0 r a.end (rbsp_below 2 unit g) a.read
