-- Internal: what reading returns.
use Rattle.std.specs.Prelude.{ℕ, Option, Some, None, Result, Ok, Err}
use Rattle.error.specs.Refusals.{number_of}
use Rattle.error.specs.declared.Refusal.{Refusal}
use Rattle.parse.specs.Parse.{Parsed, value, refused}

-- what a read says: the value and the place after it, or the refusal
abbrev pub read_of : {A : Type 0} → Result (A × ℕ) Refusal → Parsed A
read_of (Ok (a, p)) = value a p
read_of (Err e) = refused (number_of e)

-- the same where the only refusal is 1, that the bytes run out
abbrev pub there_of : {A : Type 0} → Option (A × ℕ) → Parsed A
there_of (Some (a, p)) = value a p
there_of None = refused 1
