-- Start codes 00 00 01 (SCOPE 3.13; H.266 annex B).
use Rattle.std.specs.Prelude.{ℕ, suc, ◌+◌, Bool, false, ◌&&◌, List, [], ◌∷◌, eqb, drop, if◌then◌else◌}

-- how many bytes come before the first place from which on the bytes pass a test; all of them where there is none
unfoldable pub bytes_before : (List ℕ → Bool) → List ℕ → ℕ
bytes_before test [] = 0
bytes_before test (x ∷ r) = if test (x ∷ r) then 0 else suc (bytes_before test r)

-- whether the first three bytes are 00 00 01
unfoldable pub starts_with_code : List ℕ → Bool
starts_with_code [] = false
starts_with_code (x ∷ []) = false
starts_with_code (x ∷ y ∷ []) = false
starts_with_code (x ∷ y ∷ z ∷ r) = eqb z 1 && (eqb y 0 && eqb x 0)

-- how many bytes come before the first start code; all of them where there is none
unfoldable pub scan : List ℕ → ℕ
scan s = bytes_before starts_with_code s

-- the place of the first start code at or after place p; the length where there is none
abbrev pub start_code_from : List ℕ → ℕ → ℕ
start_code_from s p = p + scan (drop p s)
