-- Internal: units that lie in a list, as they are written.
use Rattle.std.specs.Prelude.{ℕ, List, map}
use Rattle.boxes.specs.Parts.{held}
use Rattle.boxes.specs.declared.Span.{Span}
use Rattle.unit_list.specs.UnitList.{encode_units}

-- the bytes of the units at spans of s, each after its length in w bytes
abbrev pub unit_bytes : ℕ → List ℕ → List Span → List ℕ
unit_bytes w s us = encode_units w (map (held s) us)
