-- How many bytes always suffice for an output of the calls for C (SCOPE 4.8, also in include/vvcc.h), and what such a call returns. The theorems, for
-- records that are lists of bytes, are in proofs/Stills.antt, proofs/AccessUnit.antt and proofs/StrictRecord.antt.
use Rattle.std.specs.Prelude.{ℕ, ◌+◌, ◌*◌, ◌/◌, ◌%◌, ◌≤◌, ◌≡◌, Bool, List, eqb, length, get_or, if◌then◌else◌}
use Rattle.parse.specs.Outcome.{Outcome, accept, and_then}
use Rattle.full.specs.Read.{FullParsed}
use Rattle.vvcc_answers.specs.Answers.{written_answer, written_given, read_answer}
use Rattle.vvcc_records.specs.Records.{read_given}

-- 5 n / 2, rounded down
abbrev pub two_and_a_half : ℕ → ℕ
two_and_a_half n = 5 * n / 2

-- multi_layer_flag, the first bit of a compact record
abbrev pub multi_layer : List ℕ → Bool
multi_layer C = eqb (get_or C 0 0 / 128) 1

-- the greatest length of a compact record that reads: 33 units of 255 bytes
abbrev pub longest_compact : ℕ
longest_compact = 1 + 33 * 256

-- `vvcc_still_record`: the full record of a compact record C
abbrev pub record_room : List ℕ → ℕ
record_room C = 1100 + 5 * length C

-- `vvcc_still_stream`: the stream of C and stored bytes S, where layers is the multi-layer flag
abbrev pub still_room_with : Bool → List ℕ → List ℕ → ℕ
still_room_with layers C S = 4 * length C + (if layers then two_and_a_half (length S) else length S + 6)

-- the stream of C and stored bytes S, with the multi-layer flag that C has
abbrev pub still_room : List ℕ → List ℕ → ℕ
still_room C S = still_room_with (multi_layer C) C S

-- the prefix size of a full record (LengthSizeMinusOne + 1)
abbrev pub prefix_size : List ℕ → ℕ
prefix_size rec = get_or rec 0 0 / 2 % 4 + 1

-- `vvcc_access_unit` and `vvcc_strict_record`, scratch: the unit list of a full record
abbrev pub scratch_room : List ℕ → ℕ
scratch_room rec = 4 * length rec

-- `vvcc_access_unit`, output: the stream of a record and an item, where four is whether the prefix size is 4
abbrev pub stream_room_with : Bool → List ℕ → List ℕ → ℕ
stream_room_with four rec item = 2 * length rec + (if four then length item else two_and_a_half (length item))

-- the stream of a record and an item, with the prefix size that the record has
abbrev pub stream_room : List ℕ → List ℕ → ℕ
stream_room rec item = stream_room_with (eqb (prefix_size rec) 4) rec item

-- n bytes suffice for a result: it is not longer, and with an output of n bytes or more the answer is its length or its refusal, never 20
pub record Suffices (n : ℕ) (o : Outcome (List ℕ)) : Type 0 where
  pub long : (b : List ℕ) → o ≡ accept b → length b ≤ n
  pub answer : (out : List ℕ) → n ≤ length out → (written_given o out).0 ≡ written_answer (and_then o (λ b. accept (length b)))
  pub not_short : (out : List ℕ) → n ≤ length out → (written_given o out).0.refusal ≡ 20 → ⊥

-- n bytes of scratch suffice for the list of a record that is read: it is not longer, and with a scratch of n bytes or more the answer is how many
-- bytes were consumed or the refusal, never 20
pub record ReadSuffices (n : ℕ) (o : Outcome (FullParsed × List ℕ)) : Type 0 where
  pub long : (r : FullParsed) (list : List ℕ) → o ≡ accept (r, list) → length list ≤ n
  pub answer : (scratch : List ℕ) → n ≤ length scratch → (read_given o scratch).0 ≡ read_answer (and_then o (λ r. accept r.0))
  pub not_short : (scratch : List ℕ) → n ≤ length scratch → (read_given o scratch).0.refusal ≡ 20 → ⊥
