-- The answer of `opi_ols_idx` (SCOPE 3.12).
use Rattle.std.specs.Prelude.{ℕ, List, Option}
use Rattle.parse.specs.Outcome.{Outcome, accept, lent_input}
use Rattle.opi.specs.Opi.{opi_ols_idx}

-- `opi_ols_idx`: 23
abbrev pub ols_idx_given : List ℕ → Outcome (Option ℕ)
ols_idx_given unit = lent_input unit (accept (opi_ols_idx unit))
