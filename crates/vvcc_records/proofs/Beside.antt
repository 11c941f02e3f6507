-- Laws of a full record that is read: the answer of strict reading, and for assembly with an item what the scratch holds afterwards and what the
-- stream consists of.
use Prim.Native.Nat.{ℕ, ◌+◌, ◌-◌, ◌^◌, ◌≤◌, ◌<◌}
use mathlib.Core.Path.{◌≡◌, refl, sym, ap, ◌∙◌}
use mathlib.Core.List.{List}
use native.Mathlib.Omega.{arith}
use native.Mathlib.Decide.{dec_le}
use lib.Dec.{leb}
use lib.ListN.{length, take, drop, length-append}
use lib.Seq.{take_at}
use borrow.Author.Tests.{le-leb, lt-leb}
use Rattle.std.specs.Prelude.{if◌then◌else◌, Option, Result, Ok, Err}
use Rattle.error.specs.Refusals.{number_of}
use Rattle.error.specs.declared.Refusal.{Refusal}
use Rattle.parse.specs.Answers.{answer_of}
use Rattle.parse.specs.Outcome.{Outcome, accept, refuse, and_then, lent_output, counted}
use Rattle.parse.proofs.Lent.{lent_too_long, lent_within}
use Rattle.parse.proofs.Output.{OutputAccepted, output_accepted}
use Rattle.full.specs.Read.{FullParsed, parse_full}
use Rattle.full.specs.declared.VvcConfig.{VvcConfig}
use Rattle.full.proofs.Parsed.{read_as}
use Rattle.access_unit.specs.AccessUnit.{assemble}
use Rattle.access_unit.specs.declared.StartCodes.{StartCodes}
use Rattle.vvcc_answers.specs.Answers.{written_answer, written_given}
use Rattle.vvcc_answers.specs.declared.VvccWritten.{VvccWritten}
use Rattle.vvcc_answers.proofs.Given.{given_refused, given_choice}
use Rattle.vvcc_records.specs.Records.{read_beside, scratch_filled, stream_beside}

-- ### a result of bytes in lent memory, and a call that continues with it

-- what follows it if the bytes fit the scratch, otherwise 20
abbrev onward : {A B : Type 0} → Outcome (A × List ℕ) → List ℕ → (A × List ℕ → Outcome B) → Outcome B
onward o scratch f = and_then o (λ r. if leb (length r.1) (length scratch) then f r else refuse 20)

onward_bytes : {A B : Type 0} (b : A) (bytes scratch : List ℕ) (f : A × List ℕ → Outcome B) (n : ℕ)
    → ◌≡◌ {A = Outcome A} (refuse n) (lent_output (accept (b, bytes)) scratch).0
    → onward (accept (b, bytes)) scratch f ≡ refuse n
onward_bytes {A} {B} b bytes scratch f n e =
    elim (dec_le (length bytes) (length scratch)) [
      | yes k ↦ absurd (let x : ◌≡◌ {A = Outcome A} (refuse n) (accept b) = e ∙ rw (le-leb (length bytes) (length scratch) k) in
          let z : ◌≡◌ {A = ℕ} 0 1 = cc in omega arith)
      | no k ↦ short (e ∙ rw (lt-leb (length bytes) (length scratch) (omega arith))) (omega arith)
    ]
  where
    short : ◌≡◌ {A = Outcome A} (refuse n) (refuse 20) → length scratch < length bytes → onward (accept (b, bytes)) scratch f ≡ refuse n
    short x k = let s : n ≡ 20 = cc in rw (lt-leb (length bytes) (length scratch) k, s)

onward_refused : {A B : Type 0} (o : Outcome (A × List ℕ)) (scratch : List ℕ) (f : A × List ℕ → Outcome B) (n : ℕ)
    → ◌≡◌ {A = Outcome A} (refuse n) (lent_output o scratch).0
    → onward o scratch f ≡ refuse n
onward_refused (accept (b, bytes)) scratch f n e = onward_bytes b bytes scratch f n e
onward_refused (refuse m) scratch f n e = let s : n ≡ m = cc in rw s

-- ### the record read

module _ (codes : StartCodes) (rec item scratch : List ℕ) (tols : Option ℕ) where
  -- the item is too long
  stream_too_long : 2 ^ 30 < length item → stream_beside codes rec item tols scratch ≡ refuse 23
  unfolding stream_beside read_beside
  stream_too_long h = rw (lt-leb (length item) (2 ^ 30) h)

  scratch_too_long : 2 ^ 30 < length item → scratch ≡ scratch_filled rec item scratch
  unfolding read_beside
  scratch_too_long h = sym (ap (λ (o : Outcome (FullParsed × List ℕ)). (lent_output o scratch).1) (lent_too_long item (parse_full rec) h))

  pub too_long : (out : List ℕ) (r : VvccWritten) → 2 ^ 30 < length item → r ≡ written_answer (refuse 23)
      → ((r, out) ≡ written_given (stream_beside codes rec item tols scratch) out) × (scratch ≡ scratch_filled rec item scratch)
  too_long out r h f = (given_refused (stream_beside codes rec item tols scratch) out 23 r f (stream_too_long h), scratch_too_long h)

  -- what is known once the record was read into the scratch
  pub record ReadInto (exit : List ℕ) (r : Result FullParsed Refusal) : Type 0 where
    pub filled : exit ≡ scratch_filled rec item scratch
    pub refused : (n : Refusal) → r ≡ Err n → stream_beside codes rec item tols scratch ≡ refuse (number_of n)
    pub fits : (x : FullParsed) → r ≡ Ok x → x.list_length ≤ length exit
    pub made : (x : FullParsed) → r ≡ Ok x → stream_beside codes rec item tols scratch ≡ assemble codes x.head (take x.list_length exit) item tols

  module _ (lent : length item ≤ 2 ^ 30) (exit : List ℕ) (r : Result FullParsed Refusal)
      (gave : ◌≡◌ {A = Outcome FullParsed × List ℕ} (answer_of r, exit) (lent_output (parse_full rec) scratch)) where
    read_here : read_beside rec item ≡ parse_full rec
    unfolding read_beside
    read_here = lent_within item (parse_full rec) lent

    said : answer_of r ≡ (lent_output (parse_full rec) scratch).0
    said = ap (λ (y : Outcome FullParsed × List ℕ). y.0) gave

    left : exit ≡ (lent_output (parse_full rec) scratch).1
    left = ap (λ (y : Outcome FullParsed × List ℕ). y.1) gave

    scratch_filled_lem : exit ≡ scratch_filled rec item scratch
    scratch_filled_lem = left ∙ ap (λ (o : Outcome (FullParsed × List ℕ)). (lent_output o scratch).1) (sym read_here)

    stream_here : stream_beside codes rec item tols scratch ≡ onward (parse_full rec) scratch (λ x. assemble codes x.0.head x.1 item tols)
    unfolding stream_beside
    stream_here = rw read_here

    stream_refused : (n : Refusal) → r ≡ Err n → stream_beside codes rec item tols scratch ≡ refuse (number_of n)
    stream_refused n e = stream_here ∙ onward_refused (parse_full rec) scratch _ (number_of n) (sym (ap answer_of e) ∙ said)

    -- the list is at the front of the scratch
    module _ (x : FullParsed) (is : r ≡ Ok x) where
      into : OutputAccepted (parse_full rec) scratch exit x
      into = output_accepted (parse_full rec) scratch exit x (sym (ap answer_of is) ∙ said) left

      long : x.list_length ≡ length into.bytes
      long = (read_as rec x into.bytes into.given).long

      list_fits : x.list_length ≤ length exit
      list_fits =
          let l : length exit ≡ length into.bytes + length (drop (length into.bytes) scratch) =
          ap length into.holds ∙ length-append into.bytes (drop (length into.bytes) scratch) in
          omega (arith, long)

      -- the part of the scratch up to its length
      list_front : take x.list_length exit ≡ into.bytes
      list_front = ap (take x.list_length) into.holds ∙ take_at into.bytes (drop (length into.bytes) scratch) x.list_length (sym long)

      stream_made : stream_beside codes rec item tols scratch ≡ assemble codes x.head (take x.list_length exit) item tols
      stream_made = stream_here ∙ rw (into.given, le-leb _ _ into.fits, list_front)

    pub read_into : ReadInto exit r
    read_into = record { filled = scratch_filled_lem; refused = stream_refused; fits = list_fits; made = stream_made }

-- what assembly of the head and the list returned, and what it left in the output
pub given_assembled : (o : Outcome (List ℕ)) (head : VvcConfig) (list item : List ℕ) (c codes : StartCodes) (t tols : Option ℕ) (out exit : List ℕ)
    (w : Outcome ℕ) (r : VvccWritten) → r ≡ written_answer w → (w, exit) ≡ lent_output (counted (assemble c head list item t)) out
    → c ≡ codes → t ≡ tols → o ≡ assemble codes head list item tols → (r, exit) ≡ written_given o out
given_assembled o head list item c codes t tols out exit w r f g k h e =
    rw e (given_choice (λ x. assemble x head list item) c codes t tols out exit w r f g k h)
