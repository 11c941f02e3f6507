-- Internal: the walk over the units of a list that reads: what is left, a step to the next unit, the first unit of a type.
use Rattle.std.specs.Prelude.{ℕ, ◌+◌, ◌≤◌, ◌≡◌, List, [], length, Option, None, Some, Result, Ok, Err}
use Rattle.error.specs.Refusals.{number_of}
use Rattle.error.specs.declared.Refusal.{Refusal}
use Rattle.parse.specs.Outcome.{Outcome, accept, refuse}
use Rattle.boxes.specs.Parts.{held}
use Rattle.boxes.specs.declared.Span.{Span}
use Rattle.nal.specs.Header.{largest_unit_type, type_or31}
use Rattle.grouping.specs.inner.Units.{units_at, Turn}
use Rattle.grouping.specs.declared.units.TypedUnits.{TypedUnits}

-- the bytes of the units that are left
abbrev pub units_of : TypedUnits → List (List ℕ)
units_of u = units_at u.list.now u.cursor

-- a step from u to v over the unit at span a, whose type is t
pub record UnitStepped (u : TypedUnits) (a : Span) (t : ℕ) (v : TypedUnits) : Type 0 where
  pub turn : Turn (units_of u) u.cursor.at (held u.list.now a) (units_of v) v.cursor.at
  pub same : v.list.now ≡ u.list.now
  pub inside : a.start + a.len ≤ length u.list.now
  pub long : length (held u.list.now a) ≡ a.len
  pub type_is : t ≡ type_or31 (held u.list.now a)
  pub small : t ≤ largest_unit_type

-- what a step says: the unit found, or that none is left
abbrev pub Steps : TypedUnits → Option (Span × ℕ) → TypedUnits → Type 0
Steps u (Some (a, t)) v = UnitStepped u a t v
Steps u None v = units_of u ≡ []

-- the units that a walk from the start of a list will find, or the refusal
abbrev pub started_units : Result TypedUnits Refusal → Outcome (List (List ℕ))
started_units (Ok u) = accept (units_of u)
started_units (Err e) = refuse (number_of e)
