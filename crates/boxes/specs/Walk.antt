-- The number of units and unit k of a list (SCOPE 4.5), an item (SCOPE 3.12) or a stream (SCOPE 3.13), from what a walk finds.
use Rattle.std.specs.Prelude.{ℕ, List, length, get_or}
use Rattle.parse.specs.Outcome.{Outcome, accept, refuse}
use Rattle.boxes.specs.Parts.{nowhere}
use Rattle.boxes.specs.declared.Span.{Span}

-- how many are found, or the refusal
abbrev pub count_found : {A : Type 0} → Outcome (List A) → Outcome ℕ
count_found (accept xs) = accept (length xs)
count_found (refuse e) = refuse e

-- element k, counted from 0; the empty part past the last one and on a refusal
abbrev pub found : Outcome (List Span) → ℕ → Span
found (accept xs) k = get_or xs k nowhere
found (refuse e) k = nowhere
