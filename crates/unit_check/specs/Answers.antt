-- The answer of the unit check (SCOPE 4.6).
use Rattle.std.specs.Prelude.{ℕ, Bool, List}
use Rattle.parse.specs.Outcome.{Outcome, accept, lent_input}
use Rattle.unit_check.specs.UnitCheck.{unit_checked}

-- the unit check of a lent unit: 23
abbrev pub checked : List ℕ → Outcome Bool
checked u = lent_input u (accept (unit_checked u))
