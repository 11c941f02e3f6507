-- The answer of a call as an outcome: what the call returns, or the number of its refusal (SCOPE 6.1).
use Rattle.std.specs.Prelude.{Result, Ok, Err}
use Rattle.error.specs.Refusals.{number_of}
use Rattle.error.specs.declared.Refusal.{Refusal}
use Rattle.parse.specs.Outcome.{Outcome, accept, refuse}

abbrev pub answer_of : {A : Type 0} → Result A Refusal → Outcome A
answer_of (Ok a) = accept a
answer_of (Err e) = refuse (number_of e)
