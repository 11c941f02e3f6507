-- A PTL that meets every premise of the round trip: that of the worked record of SCOPE 7 (profile 1, level 51, frame-only, one constraint byte).
use Prim.Native.Nat.{ℕ, zero, suc, ◌<◌, ◌^◌}
use mathlib.Core.Path.{◌≡◌, refl}
use mathlib.Core.Bool.{false}
use mathlib.Core.List.{[], ◌∷◌}
use native.Mathlib.Omega.{arith}
use lib.ListN.{get_or, replicate}
use Rattle.ptl.proofs.Examples.{ptl_of_p}
use Rattle.ptl_record.specs.Write.{with_flags, sub_profile_bytes, ptl_bytes, ptl_fits}
use Rattle.ptl_record.proofs.AsWritten.{Canonical}
use Rattle.ptl_record.proofs.RoundTrip.{Writable}

all : {A : Type 0} (n i : ℕ) (z : A) → get_or (replicate n z) i z ≡ z
all zero i z = refl
all (suc n) zero z = refl
all (suc n) (suc i) z = all n i z

small : (n i : ℕ) → get_or (replicate n 0) i 0 < 2 ^ 32
small n i = let e = all {A = ℕ} n i 0 in omega arith

pub worked_writable : Writable ptl_of_p
unfolding ptl_fits
worked_writable = record { fits = refl; info_is = refl; subs_are = refl; subs_small = λ i. small 255 i }

pub worked_canonical : Canonical ptl_of_p 1
worked_canonical = record {
  info_is = refl;
  info_some = omega arith;
  info_few = omega arith;
  info_clear = omega arith;
  info_rest = λ i h. all 63 i 0;
  counted = refl;
  counted_few = omega arith;
  flags_are = refl;
  flags_rest = λ i h. all 7 i false;
  levels_are = refl;
  levels_rest = λ i h. all 7 i 0;
  subs_are = refl;
  subs_few = omega arith;
  subs_rest = λ i h. all 255 i 0;
}

-- 01 02 33 80 00
pub worked_bytes : ptl_bytes ptl_of_p 1 ≡ 1 ∷ 2 ∷ 51 ∷ 128 ∷ 0 ∷ []
unfolding ptl_bytes with_flags sub_profile_bytes
worked_bytes = refl
