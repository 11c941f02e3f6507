-- The answers of the calls that read a field (SCOPE 3.1).
use Rattle.std.specs.Prelude.{ℕ, List}
use Rattle.parse.specs.Outcome.{Outcome, accept, refuse, lent_input}
use Rattle.parse.specs.Parse.{Parsed, value, refused}
use Rattle.boxes.specs.Bytes.{uint}

-- what was read and the place after it, as an outcome
abbrev pub placed : {A : Type 0} → Parsed A → Outcome (A × ℕ)
placed (value a p) = accept (a, p)
placed (refused e) = refuse e

-- a field of w bytes at place p (`u8_at`, `u16_at`, `u32_at`; the original's `Reader`): 23, 1
unfoldable pub field_at : ℕ → List ℕ → ℕ → Outcome (ℕ × ℕ)
field_at w s p = lent_input s (placed (uint w s p))
