-- Conversion of unit lists between the versions (SCOPE 4.13). Both conversions take a list of either version.
use Rattle.std.specs.Prelude.{ℕ, List, if◌then◌else◌}
use Rattle.parse.specs.Outcome.{Outcome, accept, refuse, and_then}
use Rattle.unit_list.specs.UnitList.{encode_as, contents, in_version, lengths_fit}

-- the list of version 01 with the arrays of a list: 23, 21
abbrev pub widened : List ℕ → Outcome (List ℕ)
widened s = in_version 1 s

-- the list of version 02 with the arrays of a list: 23, 21; then 29 where a length, an array's or a unit's, is above 65,535 as narrowed
abbrev pub narrowed : List ℕ → Outcome (List ℕ)
narrowed s = and_then (contents s) (λ xs. if lengths_fit 2 xs then accept (encode_as 2 xs) else refuse 29)
