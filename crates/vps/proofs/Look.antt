-- Of a VPS up to its first PTL at most the first 1,132 RBSP bytes are read.
use mathlib.Core.Path.{◌≡◌}
use mathlib.Core.Bool.{not}
use mathlib.Core.List.{List}
use Prim.Native.Nat.{ℕ}
use native.Mathlib.Omega.{arith}
use lib.Dec.{eqb, lit≤}
use lib.ListN.{take}
use Rattle.bit_reader.specs.Bits.{u}
use Rattle.bit_reader.proofs.Numbers.{u_read}
use Rattle.bit_reader.proofs.Looks.{LooksWithin, local_u, local_align, local_refuse_if, local_bind, local_bind_of}
use Rattle.ptl.proofs.Looks.{local_ptl}
use Rattle.vps.specs.Vps.{vps_ptl}

-- ---- the bits
pub local_vps : LooksWithin 8618 vps_ptl
unfolding vps_ptl
local_vps =
    local_bind 4 8614 (local_u 4) (λ id.
    local_bind 6 8608 (local_u 6) (λ layers.
    local_bind_of 3 8605 (u 3) _ (local_u 3) (λ m s p q e.
    local_bind 0 8605 (local_refuse_if (not (eqb layers 0)) 15) (λ _.
    local_bind 6 8599 (local_u 6) (λ layer.
    local_bind 7 8592 local_align (λ _.
    local_ptl m (omega (arith, u_read 3 s p m q e))))))))

-- ---- 1,132 bytes of the RBSP suffice (SCOPE 3.7)
pub vps_looks : (s : List ℕ) → vps_ptl (take 1132 s) 0 ≡ vps_ptl s 0
vps_looks s = local_vps.same 1132 s 0 (lit≤ tt)
