-- Internal: a walk over a list as a value that knows its list.
use Rattle.std.specs.Prelude.{ℕ, ◌≡◌, List, Option, Some, None, Result, Ok, Err}
use Rattle.std.specs.Borrow.{Bor}
use Rattle.error.specs.Refusals.{number_of}
use Rattle.error.specs.declared.Refusal.{Refusal}
use Rattle.parse.specs.Outcome.{Outcome, refuse}
use Rattle.boxes.specs.declared.Span.{Span}
use Rattle.unit_list.specs.UnitList.{Array, decode}
use Rattle.unit_list.specs.inner.Walk.{TypedUnit, typed_list, typed_units_from, arrays_from, array_units_from, units_left}
use Rattle.unit_list.specs.inner.Walk.{stepped, StepFits, units_stepped, UnitStepFits, arrays_stepped, ArrayStepFits}
use Rattle.unit_list.specs.declared.ListCursor.{ListCursor}
use Rattle.unit_list.specs.declared.ListWalk.{ListWalk}

-- what is left of a walk: its units with their types, its units, the units of the array that it is in, and the arrays after this one
abbrev pub typed_left : ListWalk → Outcome (List TypedUnit)
typed_left w = typed_units_from w.list.now w.cursor

abbrev pub left_of : ListWalk → Outcome (List Span)
left_of w = units_left w.list.now w.cursor

abbrev pub left_in_array : ListWalk → Outcome (List Span)
left_in_array w = array_units_from w.list.now w.cursor

abbrev pub arrays_left : ListWalk → Outcome (List (Array Span))
arrays_left w = arrays_from w.list.now w.cursor

-- a walk from the start of a list has all its units and all its arrays left
abbrev pub Starts : Bor (List ℕ) → Result ListWalk Refusal → Type 0
Starts l (Ok w) = (w.list ≡ l) × (typed_left w ≡ typed_list l.now) × (arrays_left w ≡ decode l.now)
Starts l (Err e) = (refuse (number_of e) ≡ typed_list l.now) × (refuse (number_of e) ≡ decode l.now)

-- what a step of a walk found, with the cursor after it
abbrev pub with_next : {A : Type 0} → ListCursor → Result (Option A) Refusal → Result (Option (A × ListCursor)) Refusal
with_next d (Ok (Some a)) = Ok (Some (a, d))
with_next d (Ok None) = Ok None
with_next d (Err e) = Err e

-- a step of a walk from w to w' over a unit, over a unit of the array that the walk is in, and to the next array
abbrev pub UnitFound : ListWalk → ListWalk → Result (Option Span) Refusal → Type 0
UnitFound w w' r = (stepped w.list.now (with_next w'.cursor r) ≡ typed_left w) × StepFits w.list.now w.cursor (with_next w'.cursor r)

abbrev pub ArrayUnitFound : ListWalk → ListWalk → Result (Option Span) Refusal → Type 0
ArrayUnitFound w w' r = (units_stepped w.list.now (with_next w'.cursor r) ≡ left_in_array w) × UnitStepFits w.list.now w.cursor (with_next w'.cursor r)

abbrev pub ArrayFound : ListWalk → ListWalk → Result (Option ℕ) Refusal → Type 0
ArrayFound w w' r = (arrays_stepped w.list.now (with_next w'.cursor r) ≡ arrays_left w) × ArrayStepFits w.list.now w.cursor (with_next w'.cursor r)

-- a step that finds nothing leaves the walk where it is
abbrev pub Stays : {A : Type 0} → ListWalk → ListWalk → Result (Option A) Refusal → Type 0
Stays w w' (Ok (Some a)) = Unit {0}
Stays w w' (Ok None) = w'.cursor ≡ w.cursor
Stays w w' (Err e) = w'.cursor ≡ w.cursor
