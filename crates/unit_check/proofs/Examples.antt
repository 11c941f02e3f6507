-- The unit check computed for some units, and what splitting needs beside it.
use Prim.Native.Nat.{ℕ}
use mathlib.Core.Path.{◌≡◌, refl}
use mathlib.Core.Bool.{true, false}
use mathlib.Core.List.{List, [], ◌∷◌}
use native.Mathlib.Omega.{arith}
use Rattle.parse.specs.Outcome.{accept}
use Rattle.start_code.specs.StartCode.{bytes_before, starts_with_code, scan}
use Rattle.start_code.specs.Splittable.{Splittable}
use Rattle.start_code.proofs.StartCodes.{none_scan}
use Rattle.start_code.proofs.Splittable.{splittable}
use Rattle.unit_check.specs.UnitCheck.{ends_in_zero, starts_forbidden, unit_checked}
use Rattle.unit_check.specs.Answers.{checked}

-- a picture unit with 00 00 02 inside, as a camera delivered it
abbrev pub camera : List ℕ
camera = 0x00 ∷ 0x41 ∷ 0x9A ∷ 0x00 ∷ 0x00 ∷ 0x02 ∷ 0x33 ∷ []

-- it is split off a stream as it is, and does not pass the check: splitting needs less
pub camera_split : Splittable camera
unfolding scan bytes_before starts_with_code
camera_split = splittable camera (omega arith) (none_scan camera refl) (λ e. omega arith)

pub camera_no : checked camera ≡ accept false
unfolding unit_checked bytes_before starts_forbidden ends_in_zero
camera_no = refl

-- the same unit after emulation prevention passes
camera_prevented : checked (0x00 ∷ 0x41 ∷ 0x9A ∷ 0x00 ∷ 0x00 ∷ 0x03 ∷ 0x02 ∷ 0x33 ∷ []) ≡ accept true
unfolding unit_checked bytes_before starts_forbidden ends_in_zero
camera_prevented = refl

-- 00 00 00 is not allowed, nor is 00 00 03 before 04; before 03 it is, and so it is at the very end
zeros : checked (0x07 ∷ 0x00 ∷ 0x00 ∷ 0x00 ∷ 0x07 ∷ []) ≡ accept false
unfolding unit_checked bytes_before starts_forbidden ends_in_zero
zeros = refl

before_four : checked (0x07 ∷ 0x00 ∷ 0x00 ∷ 0x03 ∷ 0x04 ∷ []) ≡ accept false
unfolding unit_checked bytes_before starts_forbidden ends_in_zero
before_four = refl

before_three : checked (0x07 ∷ 0x00 ∷ 0x00 ∷ 0x03 ∷ 0x03 ∷ []) ≡ accept true
unfolding unit_checked bytes_before starts_forbidden ends_in_zero
before_three = refl

at_end_lem : checked (0x07 ∷ 0x00 ∷ 0x00 ∷ 0x03 ∷ []) ≡ accept true
unfolding unit_checked bytes_before starts_forbidden ends_in_zero
at_end_lem = refl
