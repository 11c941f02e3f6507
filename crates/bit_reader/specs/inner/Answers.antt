-- Internal: what the answers of reads say.
use Rattle.std.specs.Prelude.{ℕ, Result, Ok, Err}
use Rattle.error.specs.Refusals.{number_of}
use Rattle.error.specs.declared.Refusal.{Refusal}
use Rattle.parse.specs.Parse.{Parsed, value, refused}
use Rattle.bit_reader.specs.declared.BitPosition.{BitPosition}

-- what was read and the bit position after it, or a refusal
abbrev pub parsed : {A : Type 0} → Result (A × BitPosition) Refusal → Parsed A
parsed (Ok (a, q)) = value a q.0
parsed (Err e) = refused (number_of e)

-- the bit position after what was passed over, or a refusal
abbrev pub passed : Result BitPosition Refusal → Parsed (Unit {0})
passed (Ok q) = value tt q.0
passed (Err e) = refused (number_of e)

-- an answer, and the bit position that the reader was left at
abbrev pub read_to : {A : Type 0} → ℕ → Result A Refusal → Parsed A
read_to q (Ok a) = value a q
read_to q (Err e) = refused (number_of e)
