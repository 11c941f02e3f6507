-- Internal: the part that a call returns for unit k.
use Rattle.std.specs.Prelude.{Option, None, Some}
use Rattle.parse.specs.Outcome.{Outcome, accept, refuse}
use Rattle.boxes.specs.Parts.{nowhere}
use Rattle.boxes.specs.declared.Span.{Span}

-- where the part lies; where there is no unit, it is the empty part
abbrev pub lying : Outcome (Option Span) → Span
lying (accept (Some a)) = a
lying (accept None) = nowhere
lying (refuse e) = nowhere
