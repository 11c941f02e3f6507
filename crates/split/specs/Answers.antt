-- The answer of a step over an item or a stream, and the steps over an item (SCOPE 3.12).
use Rattle.std.specs.Prelude.{ℕ, List, leb, length, if◌then◌else◌, Option, None, Some}
use Rattle.parse.specs.Outcome.{Outcome, accept, refuse, lent_input}
use Rattle.parse.specs.Parse.{Parsed, value, refused}
use Rattle.boxes.specs.Bytes.{outside}
use Rattle.boxes.specs.declared.Span.{Span}
use Rattle.split.specs.Item.{item_unit}
use Rattle.split.specs.declared.NextUnit.{NextUnit}

-- the unit whose length is at a place of an item
abbrev pub unit_read : Parsed Span → Outcome (Option NextUnit)
unit_read (value a p) = accept (Some (record { unit = a; next = p }))
unit_read (refused e) = refuse e

-- one step over an item: at or after the end there is no unit
unfoldable pub item_step : ℕ → List ℕ → ℕ → Outcome (Option NextUnit)
item_step size item p = if leb (length item) p then accept None else unit_read (item_unit size item p)

-- `next_item_unit`: 23, 4, then in byte order 1 and 5
unfoldable pub next_item_unit : ℕ → List ℕ → ℕ → Outcome (Option NextUnit)
next_item_unit size item p = lent_input item (if outside size then refuse 4 else item_step size item p)
