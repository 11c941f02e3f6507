-- Worked bytes, computed by the definitions.
use Prim.Native.Nat.{zero, suc}
use mathlib.Core.Path.{◌≡◌, refl}
use mathlib.Core.List.{[], ◌∷◌}
use native.Mathlib.Omega.{arith}
use Rattle.parse.specs.Parse.{many, many_up_to}
use Rattle.start_code.specs.StartCode.{bytes_before, starts_with_code, scan}
use Rattle.unit_check.proofs.Examples.{camera, camera_split}
use Rattle.annex_b.specs.Stream.{trim_onto, trim, segment, non_empty, stream_units_from, four, annex_b}
use Rattle.annex_b.specs.RoundTrip.{AllSplittable, SplitsInto}
use Rattle.annex_b.proofs.RoundTrip.{splits_back}

-- a start code of four bytes, a unit, a zero, an empty unit, and a unit with trailing zeros
stream_units : stream_units_from (0 ∷ 0 ∷ 0 ∷ 1 ∷ 7 ∷ 8 ∷ 0 ∷ 0 ∷ 0 ∷ 1 ∷ 0 ∷ 0 ∷ 1 ∷ 9 ∷ 0 ∷ 0 ∷ []) 0
    ≡ record { start = 4; len = 2 } ∷ record { start = 13; len = 1 } ∷ []
unfolding stream_units_from many many_up_to segment non_empty scan bytes_before starts_with_code trim trim_onto
stream_units = refl

-- a unit with 00 00 02 in it does not pass the unit check, and a stream of it splits into it all the same
camera_back : SplitsInto (annex_b (λ k u. four) (camera ∷ [])) (camera ∷ [])
unfolding annex_b
camera_back = splits_back (λ k u. four) (camera ∷ []) one (omega arith)
  where
    one : AllSplittable (camera ∷ [])
    one zero h = camera_split
    one (suc k) h = absurd (omega arith)
