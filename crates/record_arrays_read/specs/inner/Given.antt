-- Internal: a record with a head of type H read, for the codec k.
use Rattle.std.specs.Prelude.{ℕ, List}
use Rattle.parse.specs.Outcome.{Outcome, lent_input}
use Rattle.parse.specs.Parse.{Parser}
use Rattle.record_arrays.specs.Record.{record_parsed}
use Rattle.record_arrays.specs.inner.Records.{record_with}
use Rattle.record_arrays.specs.declared.Codec.{Codec}
use Rattle.record_arrays.specs.declared.ParsedRecord.{ParsedRecord}

-- what reading a record returns, and the list
abbrev pub record_read : {H : Type 0} → Codec → Parser H → List ℕ → Outcome (ParsedRecord H × List ℕ)
record_read k read_head s = lent_input s (record_parsed s (record_with k read_head s 0))
