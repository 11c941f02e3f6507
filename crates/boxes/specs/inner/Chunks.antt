-- Internal: the answer of reading a chunk.
use Rattle.std.specs.Prelude.{◌+◌, Option, Some, None}
use Rattle.parse.specs.Parse.{Parsed, value, refused}
use Rattle.boxes.specs.declared.Span.{Span}

-- what a chunk's answer says; every refusal to read one is 1
abbrev pub chunk_stepped : Option Span → Parsed Span
chunk_stepped (Some a) = value a (a.start + a.len)
chunk_stepped None = refused 1
