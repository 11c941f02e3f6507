-- Internal: the parts of a compact record and of its list: the first byte, and units found and stored.
use Rattle.std.specs.Prelude.{ℕ, List}
use Rattle.parse.specs.Parse.{Parsed, times}
use Rattle.boxes.specs.Bytes.{chunk}
use Rattle.boxes.specs.declared.Span.{Span}

-- n units of a compact record, from place 1 on
abbrev pub record_units : List ℕ → ℕ → Parsed (List Span)
record_units s n = times n (chunk 1) s 1
