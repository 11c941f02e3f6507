-- The unit check (SCOPE 4.6): what may not occur in a unit (H.266 7.4.2, NAL unit semantics).
use Rattle.std.specs.Prelude.{ℕ, Bool, false, not, ◌&&◌, ◌||◌, List, [], ◌∷◌, eqb, leb, ltb, length}
use Rattle.start_code.specs.StartCode.{bytes_before}

-- whether the last byte is 00
unfoldable pub ends_in_zero : List ℕ → Bool
ends_in_zero [] = false
ends_in_zero (x ∷ []) = eqb x 0
ends_in_zero (x ∷ y ∷ r) = ends_in_zero (y ∷ r)

-- whether the first byte is above 03
abbrev pub above_three : List ℕ → Bool
above_three [] = false
above_three (x ∷ r) = ltb 3 x

-- whether the first bytes are 00 00 00, 00 00 01 or 00 00 02, or 00 00 03 and a byte above 03
unfoldable pub starts_forbidden : List ℕ → Bool
starts_forbidden [] = false
starts_forbidden (x ∷ []) = false
starts_forbidden (x ∷ y ∷ []) = false
starts_forbidden (x ∷ y ∷ z ∷ r) = (eqb x 0 && eqb y 0) && (leb z 2 || (eqb z 3 && above_three r))

-- the unit check: the unit is not empty, does not end in 00, and has no such bytes at any place
unfoldable pub unit_checked : List ℕ → Bool
unit_checked u = ltb 0 (length u) && (not (ends_in_zero u) && eqb (bytes_before starts_forbidden u) (length u))
