-- A record of a head and arrays read: what is returned, and the unit list of its arrays (SCOPE 3.10 and 4.11).
use Rattle.std.specs.Prelude.{ℕ, List, length}
use Rattle.parse.specs.Outcome.{Outcome, accept, refuse}
use Rattle.parse.specs.Parse.{Parsed, value, refused}
use Rattle.boxes.specs.declared.Span.{Span}
use Rattle.unit_list.specs.UnitList.{Array, encode, held_arrays}
use Rattle.record_arrays.specs.declared.ParsedRecord.{ParsedRecord}

-- what is returned, and the list, for a record that was read from s
abbrev pub record_parsed : {H : Type 0} → List ℕ → Parsed (H × List (Array Span)) → Outcome (ParsedRecord H × List ℕ)
record_parsed s (refused e) = refuse e
record_parsed s (value r p) =
    accept (record { head = r.0; consumed = p; list_length = length (encode (held_arrays s r.1)) }, encode (held_arrays s r.1))
