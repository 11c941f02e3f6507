-- What the unit check says, in plain terms (SCOPE 4.6): the claim is `CheckSays`. Splitting a stream needs less: `Splittable` (SCOPE 3.13).
use Rattle.std.specs.Prelude.{ℕ, ◌+◌, ◌^◌, ◌≤◌, ◌<◌, ◌≡◌, true, false, List, length, get_or}
use Rattle.parse.specs.Outcome.{accept}
use Rattle.start_code.specs.Splittable.{Lacks, Splittable}
use Rattle.unit_check.specs.Answers.{checked}

-- what the unit check asks: besides, 00 00 00 and 00 00 02 are nowhere in u, and no byte above 03 follows 00 00 03
pub record Passes (u : List ℕ) : Type 0 where
  pub splittable : Splittable u
  pub no_zero : Lacks 0 u
  pub no_two : Lacks 2 u
  pub no_above : (i : ℕ) → i + 3 < length u → get_or u i 0 ≡ 0 → get_or u (i + 1) 0 ≡ 0 → get_or u (i + 2) 0 ≡ 3 → 3 < get_or u (i + 3) 0 → ⊥

-- The check of a unit answers yes exactly if the unit passes, and otherwise no.
pub record Says (u : List ℕ) : Type 0 where
  pub yes : checked u ≡ accept true → Passes u
  pub passes : Passes u → checked u ≡ accept true
  pub no : (Passes u → ⊥) → checked u ≡ accept false

-- This holds of every unit of at most 2^30 bytes.
abbrev pub CheckSays : Type 0
CheckSays = (u : List ℕ) → length u ≤ 2 ^ 30 → Says u
