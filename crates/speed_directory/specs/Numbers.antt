-- What the calls return, made from the outcomes of filling a directory, of asking it and of walking over the list.
use Rattle.std.specs.Prelude.{ℕ, List, Option, None, Some}
use Rattle.parse.specs.Outcome.{Outcome, accept, refuse}
use Rattle.boxes.specs.declared.Span.{Span}
use Rattle.directory.specs.declared.Entry.{Entry}
use Rattle.speed_directory.specs.declared.UnitNumbers.{UnitNumbers}

-- the numbers of a unit's place: the refusal's, 0 where there is none; whether there is a unit, and where it lies
abbrev pub numbers_of : Outcome (Option Span) → UnitNumbers
numbers_of (accept (Some a)) = record { refusal = 0; is_there = 1; start = a.start; len = a.len }
numbers_of (accept None) = record { refusal = 0; is_there = 0; start = 0; len = 0 }
numbers_of (refuse e) = record { refusal = e; is_there = 0; start = 0; len = 0 }

-- 0 is no refusal
abbrev pub refusal_of : Outcome ℕ → ℕ
refusal_of (accept _) = 0
refusal_of (refuse e) = e

-- what filling leaves, with the refusal's number for the outcome
abbrev pub fill_numbers : Outcome ℕ × (List Entry × List ℕ) → ℕ × (List Entry × List ℕ)
fill_numbers (o, after) = (refusal_of o, after)
