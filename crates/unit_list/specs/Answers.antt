-- The units that the calls on a unit list count and find (SCOPE 4.5).
use Rattle.std.specs.Prelude.{ℕ, List}
use Rattle.parse.specs.Outcome.{Outcome, accept, and_then}
use Rattle.boxes.specs.declared.Span.{Span}
use Rattle.unit_list.specs.UnitList.{decode, units_of, units_of_type}

-- all units of a list: 23, 21
abbrev pub list_units : List ℕ → Outcome (List Span)
list_units s = and_then (decode s) (λ xs. accept (units_of xs))

-- the units in the arrays of a type: 23, 21
abbrev pub list_units_of_type : ℕ → List ℕ → Outcome (List Span)
list_units_of_type t s = and_then (decode s) (λ xs. accept (units_of_type t xs))
