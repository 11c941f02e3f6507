-- Of an SPS's head at most the first 1,132 RBSP bytes are read.
use mathlib.Core.Path.{◌≡◌}
use mathlib.Core.List.{List}
use Prim.Native.Nat.{ℕ}
use native.Mathlib.Omega.{arith}
use lib.Dec.{ltb, lit≤}
use lib.ListN.{take}
use Rattle.std.specs.Prelude.{min, length}
use Rattle.std.proofs.lemmas.List.{take_min}
use Rattle.bit_reader.specs.Bits.{u, is_set}
use Rattle.bit_reader.proofs.Numbers.{u_read}
use Rattle.bit_reader.proofs.Looks.{LooksWithin, local_u, local_ue, local_give, local_more, local_if, local_refuse_if, local_bind, local_bind_of}
use Rattle.ptl.specs.Ptl.{zero_ptl}
use Rattle.ptl.proofs.Looks.{local_ptl}
use Rattle.sps.specs.Sps.{window, no_window, sps_head}

-- ---- the bits
pub local_window : LooksWithin 252 window
unfolding window
local_window =
    local_bind 63 189 local_ue (λ l. local_bind 63 126 local_ue (λ r. local_bind 63 63 local_ue (λ t. local_bind 63 0 local_ue (λ b. local_give _))))

pub local_sps : LooksWithin 9054 sps_head
unfolding sps_head
local_sps =
    local_bind 4 9050 (local_u 4) (λ id.
    local_bind 4 9046 (local_u 4) (λ vps.
    local_bind_of 3 9043 (u 3) _ (local_u 3) (λ m s p q e.
    local_bind 2 9041 (local_u 2) (λ chroma.
    local_bind 2 9039 (local_u 2) (λ ctu.
    local_bind 1 9038 (local_u 1) (λ has_ptl.
    local_bind 8592 446
    (local_if 8592 (is_set has_ptl) (local_ptl m (omega (arith, u_read 3 s p m q e))) (local_more 0 8592 (lit≤ tt) (local_give zero_ptl)))
    (λ l.
    local_bind 1 445 (local_u 1) (λ gdr.
    local_bind 1 444 (local_u 1) (λ resampling.
    local_bind 1 443 (local_if 1 (is_set resampling) (local_u 1) (local_more 0 1 (lit≤ tt) (local_give 0))) (λ change.
    local_bind 63 380 local_ue (λ width.
    local_bind 63 317 local_ue (λ height.
    local_bind 1 316 (local_u 1) (λ has_window.
    local_bind 252 64 (local_if 252 (is_set has_window) local_window (local_more 0 252 (lit≤ tt) (local_give no_window))) (λ win.
    local_bind 1 63 (local_u 1) (λ subpictures.
    local_bind 0 63 (local_refuse_if (is_set subpictures) 13) (λ _.
    local_bind 63 0 local_ue (λ d.
    local_bind 0 0 (local_refuse_if (ltb 8 d) 14) (λ _.
    local_give _))))))))))))))))))

-- ---- 1,132 bytes of the RBSP suffice (SCOPE 3.7)
pub sps_looks : (s : List ℕ) → sps_head (take 1132 s) 0 ≡ sps_head s 0
sps_looks s = local_sps.same 1132 s 0 (lit≤ tt)

pub sps_front : (s : List ℕ) (n : ℕ) → n ≡ min 1132 (length s) → sps_head (take n s) 0 ≡ sps_head s 0
sps_front s n e = rw (e, take_min) (sps_looks s)
