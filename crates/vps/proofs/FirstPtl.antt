-- Laws of a VPS's first PTL after the fields before it.
use mathlib.Core.Path.{◌≡◌, refl}
use mathlib.Core.Bool.{not}
use mathlib.Core.List.{List}
use Prim.Native.Nat.{ℕ, ◌%◌, ◌≤◌}
use native.Mathlib.Omega.{arith}
use lib.Dec.{eqb}
use Rattle.parse.specs.Parse.{value, bind, refuse_if}
use Rattle.parse.proofs.Binds.{first_read, into_section}
use Rattle.bit_reader.specs.Bits.{u, align}
use Rattle.bit_reader.proofs.Numbers.{u_read, align_read}
use Rattle.ptl.specs.Ptl.{profile_tier_level}
use Rattle.vps.specs.Vps.{vps_ptl}
use Rattle.vps.specs.inner.Front.{vps_front}

-- the front and the PTL make up the VPS
pub vps_sections : (s : List ℕ) (p : ℕ) → vps_ptl s p ≡ bind (vps_front s p) (λ m q. profile_tier_level m s q)
unfolding vps_ptl vps_front
vps_sections s p =
    into_section (u 4 s p) _ _ _ (λ id p₁. into_section (u 6 s p₁) _ _ _ (λ layers p₂. into_section (u 3 s p₂) _ _ _ (λ m p₃.
    into_section (refuse_if (not (eqb layers 0)) 15 s p₃) _ _ _
    (λ _ p₄. into_section (u 6 s p₄) _ _ _ (λ layer p₅. into_section (align s p₅) _ _ _ (λ _ p₆. refl))))))

-- the sublayers number has three bits, and the PTL starts at a whole byte
pub front_bounds : (s : List ℕ) (p m q : ℕ) → vps_front s p ≡ value m q → (m ≤ 7) × (q % 8 ≡ 0)
unfolding vps_front
front_bounds s p m q e =
    first_read (u 4 s p) _ e (λ id p₁ h₁ e₁. first_read (u 6 s p₁) _ e₁ (λ layers p₂ h₂ e₂. first_read (u 3 s p₂) _ e₂ (λ k p₃ h₃ e₃.
    first_read (refuse_if (not (eqb layers 0)) 15 s p₃) _ e₃ (λ _ p₄ h₄ e₄. first_read (u 6 s p₄) _ e₄ (λ layer p₅ h₅ e₅.
    first_read (align s p₅) _ e₅ (λ _ p₆ h₆ e₆.
    let x : k ≡ m = cc in
    let y : p₆ ≡ q = cc in
    let r = u_read 3 s p₂ k p₃ h₃ in
    let a = align_read s p₅ p₆ h₆ in
    (omega arith, omega arith)))))))
