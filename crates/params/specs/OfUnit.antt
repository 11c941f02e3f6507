-- A parameter set read from its unit (SCOPE 3.7).
use Rattle.std.specs.Prelude.{List, ℕ, eqb, drop, if◌then◌else◌}
use Rattle.parse.specs.Outcome.{Outcome, refuse, lent_input}
use Rattle.parse.specs.Parse.{Parser, outcome}
use Rattle.nal.specs.Header.{type_or31}
use Rattle.rbsp.specs.Rbsp.{rbsp}

-- P on the RBSP of what follows the header of a unit of type t: 23, 10 for another type, then those of P
abbrev pub of_unit : {A : Type 0} → ℕ → Parser A → List ℕ → Outcome A
of_unit t P unit = lent_input unit (if eqb (type_or31 unit) t then outcome (P (rbsp (drop 2 unit)) 0) else refuse 10)
