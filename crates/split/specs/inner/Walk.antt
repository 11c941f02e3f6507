-- Internal: walks over the units of an item or a stream.
use Rattle.std.specs.Prelude.{ℕ, ◌+◌, ◌≤◌, ◌<◌, ◌≡◌, List, length, Option, Some, None, Result, Ok, Err}
use Rattle.error.specs.declared.Refusal.{Refusal}
use Rattle.parse.specs.Outcome.{Outcome, accept}
use Rattle.parse.specs.Parse.{many, outcome}
use Rattle.boxes.specs.Walk.{count_found}
use Rattle.boxes.specs.declared.Span.{Span}
use Rattle.split.specs.Item.{item_unit}
use Rattle.split.specs.declared.NextUnit.{NextUnit}

-- the units of an item from a place on
unfoldable pub item_units_from : ℕ → List ℕ → ℕ → Outcome (List Span)
item_units_from size item p = outcome (many (item_unit size) item p)

-- a unit found from place p on: it is not empty, lies after p and inside the bytes, and the walk goes on after it
pub record UnitAhead (s : List ℕ) (p : ℕ) (a : Span) (next : ℕ) : Type 0 where
  pub some : 0 < a.len
  pub ahead : p < a.start
  pub after : next ≡ a.start + a.len
  pub inside : next ≤ length s

-- this holds of a step that found a unit
abbrev pub Onward : List ℕ → ℕ → Result (Option NextUnit) Refusal → Type 0
Onward item p (Ok (Some m)) = UnitAhead item p m.unit m.next
Onward item p (Ok None) = Unit {0}
Onward item p (Err e) = Unit {0}

-- there is a unit number k
pub record HasUnit (o : Outcome (List Span)) (k : ℕ) : Type 0 where
  pub count : ℕ
  pub counted : count_found o ≡ accept count
  pub within : k < count
