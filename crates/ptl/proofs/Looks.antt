-- profile_tier_level( 1, s ) reads at most its next 8,592 bits.
use mathlib.Core.Path.{◌≡◌, refl}
use mathlib.Core.List.{List, [], ◌∷◌, ◌++◌}
use Prim.Native.Nat.{ℕ, zero, suc, ◌+◌, ◌-◌, ◌*◌, ◌/◌, ◌%◌, ◌≤◌}
use native.Mathlib.Nat.{suc-mul}
use native.Mathlib.Omega.{arith}
use lib.Dec.{ltb, lit≤}
use lib.ListN.{take, drop}
use lib.Seq.{take-take}
use Rattle.bit_reader.specs.Bits.{u, is_set, skip}
use Rattle.bit_reader.proofs.Numbers.{u_read}
use Rattle.bit_reader.proofs.Looks.{LooksWithin, local_u, local_skip, local_align, local_more, local_give}
use Rattle.bit_reader.proofs.Looks.{local_here, local_if, local_bind_of, local_bind, local_times}
use Rattle.ptl.specs.Ptl.{levels, constraint_bits, general_constraints_info, constraint_bytes, profile_tier_level}

-- ---- the constraint information: 71 bits, a count below 256, and as many bits
pub local_constraint_bits : LooksWithin 334 constraint_bits
unfolding constraint_bits
local_constraint_bits =
    local_bind 71 263 (local_skip 71)
    (λ _. local_bind_of 8 255 (u 8) skip (local_u 8) (λ n s p q e. local_more n 255 (omega (arith, u_read 8 s p n q e)) (local_skip n)))

pub local_info : LooksWithin 342 general_constraints_info
unfolding general_constraints_info
local_info =
    local_bind 1 341 (local_u 1)
    (λ b. local_bind 334 7 (local_if 334 (is_set b) local_constraint_bits (local_more 0 334 (lit≤ tt) (local_give tt))) (λ _. local_align))

-- bytes after the position are among the first that hold it
take_drop_take : (n f m : ℕ) (l : List ℕ) → f + n ≤ m → take n (drop f (take m l)) ≡ take n (drop f l)
take_drop_take n zero m l h = take-take n m l (omega arith)
take_drop_take n (suc f) zero l h = absurd (omega arith)
take_drop_take n (suc f) (suc m) [] h = refl
take_drop_take n (suc f) (suc m) (x ∷ l) h = take_drop_take n f m l (omega arith)

run_take : (n f e m : ℕ) (l : List ℕ) → n ≡ e - f → e ≤ m → take n (drop f (take m l)) ≡ take n (drop f l)
run_take zero f e m l h g = refl
run_take (suc n) f e m l h g = take_drop_take (suc n) f m l (omega arith)

pub local_bytes : (from : ℕ) → LooksWithin 0 (constraint_bytes from)
unfolding constraint_bytes
local_bytes from = record {
  same = λ m s p h. rw (run_take (p / 8 - from / 8) (from / 8) (p / 8) m s refl (omega arith));
  near = λ s p a q e. let o : p ≡ q = cc in omega arith;
}

-- ---- the levels
pub local_levels : (m byte : ℕ) → LooksWithin (m * 8) (levels (u 8) m byte)
unfolding levels
local_levels zero byte = local_more 0 (0 * 8) (omega arith) (local_give [])
local_levels (suc m) byte =
    local_more (8 + (m * 8 + 0)) (suc m * 8) (omega (arith, suc-mul m 8))
    (local_bind 8 (m * 8 + 0) (local_if 8 (is_set (byte / 128)) (local_u 8) (local_more 0 8 (lit≤ tt) (local_give 0)))
    (λ level. local_bind (m * 8) 0 (local_levels m (byte % 128 * 2)) (λ below. local_give (below ++ (level ∷ [])))))

-- ---- the whole: 16 + 2 + 342 + 8 + 56 + 8 + 255 * 32
pub local_ptl : (m : ℕ) → m ≤ 7 → LooksWithin 8592 (profile_tier_level m)
unfolding profile_tier_level
local_ptl m h =
    local_bind 7 8585 (local_u 7) (λ profile. local_bind 1 8584 (local_u 1) (λ tier. local_bind 8 8576 (local_u 8) (λ level.
    local_bind 0 8576 local_here (λ from. local_bind 1 8575 (local_u 1) (λ frame_only. local_bind 1 8574 (local_u 1) (λ multilayer.
    local_bind 342 8232 local_info (λ _. local_bind 0 8232 (local_bytes from) (λ constraint.
    local_bind 8 8224 (local_if 8 (ltb 0 m) (local_u 8) (local_more 0 8 (lit≤ tt) (local_give 0))) (λ flags.
    local_bind 56 8168 (local_more (m * 8) 56 (omega arith) (local_levels m flags)) (λ idcs.
    local_bind_of 8 8160 (u 8) _ (local_u 8) (λ n s p q e.
    local_bind 8160 0 (local_more (n * 32) 8160 (omega (arith, u_read 8 s p n q e)) (local_times n 32 (local_u 32))) (λ subs. local_give _))))))))))))
