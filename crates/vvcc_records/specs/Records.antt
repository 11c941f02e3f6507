-- A full record that is read for a call for C: into the scratch, and for assembly with an item.
use Rattle.std.specs.Prelude.{ℕ, List, leb, length, if◌then◌else◌, Option}
use Rattle.parse.specs.Outcome.{Outcome, refuse, lent_input, lent_output}
use Rattle.parse.specs.Steps.{◌>>=◌}
use Rattle.full.specs.Read.{FullParsed, parse_full}
use Rattle.access_unit.specs.AccessUnit.{assemble}
use Rattle.access_unit.specs.declared.StartCodes.{StartCodes}
use Rattle.vvcc_answers.specs.Answers.{read_answer}
use Rattle.vvcc_answers.specs.declared.VvccRead.{VvccRead}

-- a record that is read: the answer, and what the scratch holds afterwards
abbrev pub read_given : Outcome (FullParsed × List ℕ) → List ℕ → VvccRead × List ℕ
read_given o scratch = (read_answer (lent_output o scratch).0, (lent_output o scratch).1)

-- a full record, read for assembly with an item: 23 for either input, then the reader's refusals
unfoldable pub read_beside : List ℕ → List ℕ → Outcome (FullParsed × List ℕ)
read_beside rec item = lent_input item (parse_full rec)

-- what the scratch holds afterwards: the unit list at the front if the record is accepted and the list fits, otherwise what it held
abbrev pub scratch_filled : List ℕ → List ℕ → List ℕ → List ℕ
scratch_filled rec item scratch = (lent_output (read_beside rec item) scratch).1

-- the stream of a full record and an item: those refusals, 20 if the scratch is shorter than the unit list, then the refusals of assembly
unfoldable pub stream_beside : StartCodes → List ℕ → List ℕ → Option ℕ → List ℕ → Outcome (List ℕ)
stream_beside codes rec item tols scratch = do
  r ← read_beside rec item
  if leb (length r.1) (length scratch) then assemble codes r.0.head r.1 item tols else refuse 20
