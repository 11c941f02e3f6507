-- The answer of a step over a stream (SCOPE 3.13).
use Rattle.std.specs.Prelude.{ℕ, ◌+◌, List, [], ◌∷◌, Option, None, Some}
use Rattle.parse.specs.Outcome.{Outcome, accept, lent_input}
use Rattle.boxes.specs.declared.Span.{Span}
use Rattle.split.specs.declared.NextUnit.{NextUnit}
use Rattle.annex_b.specs.Stream.{stream_units_from}

-- the first of these units, and the place after it
abbrev pub first_next : List Span → Option NextUnit
first_next [] = None
first_next (a ∷ xs) = Some (record { unit = a; next = a.start + a.len })

-- `next_unit`: 23
abbrev pub next_given : List ℕ → ℕ → Outcome (Option NextUnit)
next_given s p = lent_input s (accept (first_next (stream_units_from s p)))
