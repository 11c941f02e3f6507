-- What reading a record returns and writes: a refusal, or the head and the list of its arrays.
use Prim.Native.Nat.{ℕ, ◌^◌, ◌≤◌, ◌<◌}
use mathlib.Core.Path.{◌≡◌, refl, sym, ap, ◌∙◌}
use mathlib.Core.Bool.{Bool, true, false}
use mathlib.Core.List.{List}
use lib.Dec.{leb}
use lib.ListN.{length}
use Rattle.error.specs.Refusals.{number_of}
use Rattle.error.specs.declared.Refusal.{Refusal}
use Rattle.std.specs.Prelude.{Result, Ok, Err, if◌then◌else◌}
use Rattle.parse.specs.Answers.{answer_of}
use Rattle.parse.specs.Outcome.{Outcome, accept, refuse, and_then, lent_output, overlay}
use Rattle.parse.specs.Parse.{Parsed, value, refused, bind, Parser, times}
use Rattle.parse.specs.inner.Answers.{read_of}
use Rattle.parse.proofs.Lent.{lent_too_long, lent_within}
use Rattle.boxes.specs.Bytes.{uint}
use Rattle.boxes.specs.declared.Span.{Span}
use Rattle.unit_list.specs.UnitList.{Array, encode, held_arrays}
use Rattle.record_arrays.specs.Read.{record_array}
use Rattle.record_arrays.specs.Record.{record_parsed}
use Rattle.record_arrays.specs.declared.Codec.{Codec}
use Rattle.record_arrays.specs.declared.ParsedRecord.{ParsedRecord}
use Rattle.record_arrays_read.specs.inner.Arrays.{counted_arrays, list_given}
use Rattle.record_arrays.specs.inner.Records.{record_with}
use Rattle.record_arrays_read.specs.inner.Given.{record_read}

-- ---- the head: what the answer of reading it says of x, its definition

module _ {H : Type 0} {a : Result (H × ℕ) Refusal} {x : Parsed H} (said : read_of a ≡ x) where
  pub head_found : {h : H} {q : ℕ} → a ≡ Ok (h, q) → x ≡ value h q
  head_found e = sym said ∙ ap read_of e

  pub head_refused : {e : Refusal} → a ≡ Err e → x ≡ refused (number_of e)
  head_refused e = sym said ∙ ap read_of e

-- ---- the list

-- the arrays that were read, with the head
abbrev pub with_head : {H : Type 0} → H → Parsed (List (Array Span)) → Parsed (H × List (Array Span))
with_head head x = bind x (λ xs q. value (head, xs) q)

-- the answer of the arrays, with the head
abbrev pub joined : {H : Type 0} → H → Outcome (ℕ × ℕ) → Outcome (ParsedRecord H)
joined head l = and_then l (λ r. accept (record { head = head; consumed = r.0; list_length = r.1 }))

-- bytes that are stored if they fit, and what is returned with them
abbrev stored : {A : Type 0} → Bool → A → List ℕ → List ℕ → Outcome A × List ℕ
stored b a bytes out = if b then (accept a, overlay bytes out) else (refuse 20, out)

-- the list in the output together with the head is the record's answer
list_handed : {H : Type 0} (s : List ℕ) (head : H) (x : Parsed (List (Array Span))) (out : List ℕ)
    → ◌≡◌ {A = Outcome (ParsedRecord H) × List ℕ}
    (joined head (lent_output (list_given s x) out).0, (lent_output (list_given s x) out).1)
    (lent_output (record_parsed s (with_head head x)) out)
list_handed s head (refused e) out = refl
list_handed {H} s head (value xs q) out = go (encode (held_arrays s xs)) (leb (length (encode (held_arrays s xs))) (length out))
  where
    go : (list : List ℕ) (b : Bool)
        → ◌≡◌ {A = Outcome (ParsedRecord H) × List ℕ}
        (joined head (stored {A = ℕ × ℕ} b (q, length list) list out).0, (stored {A = ℕ × ℕ} b (q, length list) list out).1)
        (stored {A = ParsedRecord H} b (record { head = head; consumed = q; list_length = length list }) list out)
    go list true = refl
    go list false = refl

-- ---- the record

-- o is what reading s returns, with the list
pub record ReadsRecord {H : Type 0} (k : Codec) (read_head : Parser H) (s : List ℕ) (o : Outcome (ParsedRecord H × List ℕ)) : Type 0 where
  pub same : o ≡ record_read k read_head s

module _ {H : Type 0} {k : Codec} {read_head : Parser H} {s : List ℕ} {o : Outcome (ParsedRecord H × List ℕ)}
    (reads : ReadsRecord k read_head s o) where
  pub read_too_long : 2 ^ 30 < length s → o ≡ refuse 23
  read_too_long long = reads.same ∙ lent_too_long s (record_parsed s (record_with k read_head s 0)) long

  -- the head first, then the arrays
  pub split : length s ≤ 2 ^ 30 → o ≡ record_parsed s (bind (read_head s 0) (λ head q. with_head head (counted_arrays k s q)))
  unfolding counted_arrays
  split lent = reads.same ∙ lent_within s (record_parsed s (record_with k read_head s 0)) lent ∙ ap (record_parsed s) (go (read_head s 0))
    where
      counted : (head : H) (x : Parsed ℕ)
          → bind x (λ n r. with_head head (times n (record_array k) s r)) ≡ with_head head (bind x (λ n r. times n (record_array k) s r))
      counted head (value n r) = refl
      counted head (refused e) = refl

      go : (x : Parsed H) → bind x (λ head q. bind (uint 1 s q) (λ n r. with_head head (times n (record_array k) s r)))
          ≡ bind x (λ head q. with_head head (counted_arrays k s q))
      go (value head q) = counted head (uint 1 s q)
      go (refused e) = refl

  -- what is returned, with the output that was lent
  module _ (out : List ℕ) where
    given_refused : (n : ℕ) → o ≡ refuse n → (refuse n, out) ≡ lent_output o out
    given_refused n e = ap (λ (x : Outcome (ParsedRecord H × List ℕ)). lent_output x out) (sym e)

    pub given_too_long : 2 ^ 30 < length s → (refuse 23, out) ≡ lent_output o out
    given_too_long long = given_refused 23 (read_too_long long)

    -- a is the answer of reading the head
    module _ (lent : length s ≤ 2 ^ 30) {a : Result (H × ℕ) Refusal} (said : read_of a ≡ read_head s 0) where
      pub given_headless : {e : Refusal} → a ≡ Err e → (refuse (number_of e), out) ≡ lent_output o out
      given_headless {e} is-refused =
          let w : read_head s 0 ≡ refused (number_of e) = head_refused said is-refused in
          given_refused (number_of e) (split lent ∙ rw w)

      -- the answer l of the arrays is joined with the head
      module _ {head : H} {q : ℕ} (is_read : a ≡ Ok (head, q)) {exit : List ℕ} where
        pub given_arrays : {l : Outcome (ℕ × ℕ)} → (l, exit) ≡ lent_output (list_given s (counted_arrays k s q)) out
            → (joined head l, exit) ≡ lent_output o out
        given_arrays listed =
            let w : read_head s 0 ≡ value head q = head_found said is_read in
            let j : o ≡ record_parsed s (with_head head (counted_arrays k s q)) = split lent ∙ rw w in
            ap (λ (z : Outcome (ℕ × ℕ) × List ℕ). (joined head z.0, z.1)) listed
            ∙ list_handed s head (counted_arrays k s q) out
            ∙ ap (λ (x : Outcome (ParsedRecord H × List ℕ)). lent_output x out) (sym j)

        module _ {r : Result (ℕ × ℕ) Refusal} (listed : (answer_of r, exit) ≡ lent_output (list_given s (counted_arrays k s q)) out) where
          pub given_refused_list : {e : Refusal} → r ≡ Err e → (refuse (number_of e), exit) ≡ lent_output o out
          given_refused_list e = ap (λ (y : Result (ℕ × ℕ) Refusal). (joined head (answer_of y), exit)) (sym e) ∙ given_arrays listed

          pub given_list : {p n : ℕ} → r ≡ Ok (p, n)
              → (accept (record { head = head; consumed = p; list_length = n }), exit) ≡ lent_output o out
          given_list e = ap (λ (y : Result (ℕ × ℕ) Refusal). (joined head (answer_of y), exit)) (sym e) ∙ given_arrays listed
