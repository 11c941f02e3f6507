-- What the exported functions return to C: structs of numbers, made from the outcomes of the called functions. A refusal is its number and zeros;
-- 0 is no refusal. Last, the operating point and the start codes that a caller's numbers ask for.
use Rattle.std.specs.Prelude.{ℕ, Bool, true, false, List, eqb, if◌then◌else◌, Option, None, Some}
use Rattle.parse.specs.Outcome.{Outcome, accept, refuse, lent_output, counted}
use Rattle.split.specs.declared.NextUnit.{NextUnit}
use Rattle.full.specs.Read.{FullParsed}
use Rattle.access_unit.specs.declared.StartCodes.{StartCodes}
use Rattle.access_unit.specs.declared.StartCodes.TheVariants.{Four, Short}
use Rattle.vvcc_answers.specs.declared.VvccWritten.{VvccWritten}
use Rattle.vvcc_answers.specs.declared.VvccRead.{VvccRead}
use Rattle.vvcc_answers.specs.declared.VvccUnit.{VvccUnit}
use Rattle.vvcc_answers.specs.declared.VvccCheck.{VvccCheck}

-- how many bytes were written
abbrev pub written_answer : Outcome ℕ → VvccWritten
written_answer (accept n) = record { refusal = 0; len = n }
written_answer (refuse e) = record { refusal = e; len = 0 }

-- a call whose result is bytes: its answer, and what the output holds afterwards
abbrev pub written_given : Outcome (List ℕ) → List ℕ → VvccWritten × List ℕ
written_given o out = (written_answer (lent_output (counted o) out).0, (lent_output (counted o) out).1)

-- how many bytes of a record were consumed
abbrev pub read_answer : Outcome FullParsed → VvccRead
read_answer (accept r) = record { refusal = 0; consumed = r.consumed }
read_answer (refuse e) = record { refusal = e; consumed = 0 }

-- where a unit lies, and the place to continue from
abbrev pub unit_answer : Outcome (Option NextUnit) → VvccUnit
unit_answer (accept (Some n)) = record { refusal = 0; found = 1; start = n.unit.start; len = n.unit.len; next = n.next }
unit_answer (accept None) = record { refusal = 0; found = 0; start = 0; len = 0; next = 0 }
unit_answer (refuse e) = record { refusal = e; found = 0; start = 0; len = 0; next = 0 }

-- whether a unit passes the unit check
abbrev pub check_answer : Outcome Bool → VvccCheck
check_answer (accept true) = record { refusal = 0; passes = 1 }
check_answer (accept false) = record { refusal = 0; passes = 0 }
check_answer (refuse e) = record { refusal = e; passes = 0 }

-- the operating point that a caller asks for: none if the first number is 0
abbrev pub target_from : ℕ → ℕ → Option ℕ
target_from has t = if eqb has 0 then None else Some t

-- the start codes that a caller asks for: four bytes throughout if the number is 0
abbrev pub codes_from : ℕ → StartCodes
codes_from n = if eqb n 0 then Four else Short
