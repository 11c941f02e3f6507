-- The answers of the calls on a unit's header (SCOPE 3.3).
use Rattle.std.specs.Prelude.{ℕ, List, Option}
use Rattle.parse.specs.Outcome.{Outcome, accept, lent_input}

-- a field of the header of a lent unit: 23
abbrev pub header_part : (List ℕ → Option ℕ) → List ℕ → Outcome (Option ℕ)
header_part f u = lent_input u (accept (f u))
