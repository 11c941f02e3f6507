-- Strict reading: the rules first, then what the ordinary reader returns.
use Prim.Native.Nat.{ℕ, zero, suc, ◌+◌, ◌-◌, ◌/◌, ◌%◌, ◌^◌, ◌≤◌, ◌<◌}
use mathlib.Core.Path.{◌≡◌, refl, sym, ap, ◌∙◌}
use mathlib.Core.List.{List, ◌∷◌}
use native.Mathlib.Omega.{arith}
use native.Mathlib.Decide.{dec_le}
use lib.Dec.{eqb, ltb}
use lib.ListN.{length, get_or}
use borrow.Author.Tests.{le-leb, lt-leb}
use Rattle.std.specs.Prelude.{if◌then◌else◌}
use Rattle.parse.specs.Outcome.{Outcome, accept, refuse, and_then, lent_output}
use Rattle.parse.specs.Parse.{Parsed, value, refused, bind, Parser, give, refuse_if, times, outcome}
use Rattle.parse.proofs.Gives.{Gives, gives_value, gives_any, gives_bind}
use Rattle.parse.proofs.General.{if_elim}
use Rattle.boxes.specs.Bytes.{uint}
use Rattle.boxes.specs.declared.Span.{Span}
use Rattle.bit_reader.specs.Bits.{is_set}
use Rattle.unit_list.specs.UnitList.{Array}
use Rattle.ptl.specs.Ptl.{levels}
use Rattle.ptl_record.specs.Read.{octets, vvc_ptl_record}
use Rattle.record_arrays.specs.Read.{record_array}
use Rattle.record_arrays.specs.Record.{record_parsed}
use Rattle.record_arrays.specs.declared.Codec.TheVariants.{Vvc}
use Rattle.record_arrays_read.specs.inner.Arrays.{counted_arrays}
use Rattle.record_arrays_read.proofs.Given.{with_head, split, read_too_long}
use Rattle.full.specs.Read.{FullParsed, parse_full, head_with_ptl, vvc_head}
use Rattle.full.specs.Rules.{array_byte, record_array_bytes, reserved_kept, types_kept}
use Rattle.full.specs.Strict.{holds_or, parse_strict}
use Rattle.full.specs.declared.VvcConfig.{VvcConfig}
use Rattle.record_rules.specs.inner.Rules.{SmallHead, counted_bytes, rules_kept}
use Rattle.full_read.specs.inner.Strict.{rules_after, strict_rules}
use Rattle.full_read.proofs.Given.{reads_record}

-- ---- the counts of a head that was read

module _ (s : List ℕ) where
  small_ptl : (n p : ℕ) → Gives (vvc_ptl_record n s p) (λ ptl q. ptl.num_bytes_constraint_info ≤ 63)
  unfolding vvc_ptl_record
  small_ptl n p =
      gives_bind (uint 1 s p) _ (gives_any _) (λ a q _.
      gives_bind (refuse_if (eqb (a % 64) 0) 2 s q) _ (gives_any _) (λ _ q _.
      gives_bind (uint 1 s q) _ (gives_any _) (λ b q _.
      gives_bind (uint 1 s q) _ (gives_any _) (λ level q _.
      gives_bind (octets (a % 64) s q) _ (gives_any _) (λ info q _.
      gives_bind ((if ltb 1 n then uint 1 else give 0) s q) _ (gives_any _) (λ flags q _.
      gives_bind (levels (uint 1) (n - 1) flags s q) _ (gives_any _) (λ idcs q _.
      gives_bind (uint 1 s q) _ (gives_any _) (λ m q _.
      gives_bind (times m (uint 4) s q) _ (gives_any _) (λ subs q _.
      gives_value _ q (omega arith))))))))))

  small_with_ptl : (size p : ℕ) → Gives (head_with_ptl size s p) (λ h q. SmallHead h)
  unfolding head_with_ptl
  small_with_ptl size p =
      gives_bind (uint 2 s p) _ (gives_any _) (λ w q _.
      gives_bind (uint 1 s q) _ (gives_any _) (λ d r _.
      gives_bind (vvc_ptl_record (w / 16 % 8) s r) _ (small_ptl (w / 16 % 8) r) (λ ptl t few.
      gives_bind (uint 2 s t) _ (gives_any _) (λ width x _.
      gives_bind (uint 2 s x) _ (gives_any _) (λ height y _.
      gives_bind (uint 2 s y) _ (gives_any _) (λ rate z _.
      gives_value _ z (record { sublayers = omega arith; info = few })))))))

  pub small_head : Gives (vvc_head s 0) (λ h q. SmallHead h)
  unfolding vvc_head
  small_head =
      gives_bind (uint 1 s 0) _ (gives_any _) (λ b q _.
      gives_bind (refuse_if (eqb (b / 2 % 4) 2) 3 s q) _ (gives_any _) (λ _ r _.
      if_elim (λ (P : Parser VvcConfig). Gives (P s r) (λ h t. SmallHead h)) (is_set (b % 2)) _ _ (small_with_ptl (b / 2 % 4 + 1) r)
      (gives_value _ r (record { sublayers = omega arith; info = omega arith }))))

-- ---- arrays and the bytes that they begin with read alike

abbrev Alike : {A B : Type 0} → Parsed A → Parsed B → Type 0
Alike (value a p) (value b q) = p ≡ q
Alike (value a p) (refused f) = ⊥
Alike (refused e) (value b q) = ⊥
Alike (refused e) (refused f) = e ≡ f

module _ (s : List ℕ) where
  alike_more : (a : Array Span) (b : ℕ) (x : Parsed (List (Array Span))) (y : Parsed (List ℕ)) → Alike x y
      → Alike (bind x (λ rest r. value (a ∷ rest) r)) (bind y (λ rest r. value (b ∷ rest) r))
  alike_more a b (value xs q) (value bs r) h = h
  alike_more a b (value xs q) (refused f) h = absurd h
  alike_more a b (refused e) (value bs r) h = absurd h
  alike_more a b (refused e) (refused f) h = h

  -- n arrays, and the bytes that they begin with
  bytes_alike : (n p : ℕ) → Alike (times n (record_array Vvc) s p) (times n array_byte s p)
  unfolding times array_byte
  bytes_alike zero p = refl
  bytes_alike (suc n) p = go (λ q. bytes_alike n q) (record_array Vvc s p)
    where
      go : ((q : ℕ) → Alike (times n (record_array Vvc) s q) (times n array_byte s q)) → (x : Parsed (Array Span))
          → Alike (bind x (λ a q. bind (times n (record_array Vvc) s q) (λ rest r. value (a ∷ rest) r)))
          (bind (bind x (λ a q. value (get_or s p 0) q)) (λ b q. bind (times n array_byte s q) (λ rest r. value (b ∷ rest) r)))
      go h (value a q) = alike_more a (get_or s p 0) (times n (record_array Vvc) s q) (times n array_byte s q) (h q)
      go h (refused e) = refl

  counted_alike : (p : ℕ) → Alike (counted_arrays Vvc s p) (counted_bytes s p)
  unfolding counted_arrays counted_bytes
  counted_alike p = go (uint 1 s p)
    where
      go : (x : Parsed ℕ) → Alike (bind x (λ n r. times n (record_array Vvc) s r)) (bind x (λ n r. times n array_byte s r))
      go (value n r) = bytes_alike n r
      go (refused e) = refl

-- ---- the rules first

-- two tests, and then a value
tests_then : {A : Type 0} (a b : Outcome (Unit {0})) (x : A)
    → and_then a (λ _. and_then b (λ _. accept x)) ≡ and_then (and_then a (λ _. b)) (λ _. accept x)
tests_then (accept tt) b x = refl
tests_then (refuse e) b x = refl

module _ (s : List ℕ) where
  -- what is read, with the rules after it
  abbrev then_rules : Outcome (FullParsed × List ℕ) → Outcome (List ℕ) → Outcome (FullParsed × List ℕ)
  then_rules o y = and_then o (λ r. and_then y (λ bs.
      and_then (holds_or 25 (reserved_kept s r.0.head bs)) (λ _. and_then (holds_or 26 (types_kept bs)) (λ _. accept r))))

  after_head : (h : VvcConfig) (x : Parsed (List (Array Span))) (y : Parsed (List ℕ)) → Alike x y
      → then_rules (record_parsed s (with_head h x)) (outcome y) ≡ and_then (rules_kept s h (outcome y)) (λ _. record_parsed s (with_head h x))
  after_head h (value xs q) (value bs r) e = tests_then (holds_or 25 (reserved_kept s h bs)) (holds_or 26 (types_kept bs)) _
  after_head h (value xs q) (refused f) e = absurd e
  after_head h (refused n) (value bs r) e = absurd e
  after_head h (refused n) (refused f) e = refl

  bytes_split : (x : Parsed VvcConfig) → bind x (λ h q. bind (uint 1 s q) (λ n r. times n array_byte s r)) ≡ bind x (λ h q. counted_bytes s q)
  unfolding counted_bytes
  bytes_split (value h q) = refl
  bytes_split (refused e) = refl

  -- what the ordinary reader reads after a head
  abbrev read_after : Parsed VvcConfig → Outcome (FullParsed × List ℕ)
  read_after x = record_parsed s (bind x (λ h q. with_head h (counted_arrays Vvc s q)))

  after_parsed : (x : Parsed VvcConfig)
      → then_rules (read_after x) (outcome (bind x (λ h q. counted_bytes s q))) ≡ and_then (rules_after s x) (λ _. read_after x)
  after_parsed (value h q) = after_head h (counted_arrays Vvc s q) (counted_bytes s q) (counted_alike s q)
  after_parsed (refused e) = refl

  module _ (lent : length s ≤ 2 ^ 30) where
    rules_are : strict_rules s ≡ rules_after s (vvc_head s 0)
    unfolding strict_rules
    rules_are = rw (le-leb (length s) (2 ^ 30) lent)

    after_lent : parse_strict s ≡ and_then (strict_rules s) (λ _. parse_full s)
    unfolding parse_strict record_array_bytes
    after_lent =
        let f = split (reads_record s) lent in
        ap (λ (o : Outcome (FullParsed × List ℕ)). then_rules o (outcome (record_array_bytes s 0))) f
        ∙ ap (λ (y : Parsed (List ℕ)). then_rules (read_after (vvc_head s 0)) (outcome y)) (bytes_split (vvc_head s 0))
        ∙ after_parsed (vvc_head s 0)
        ∙ sym (rw (rules_are, f))

  module _ (long : 2 ^ 30 < length s) where
    full_long : parse_full s ≡ refuse 23
    full_long = read_too_long (reads_record s) long

    after_long : parse_strict s ≡ and_then (strict_rules s) (λ _. parse_full s)
    unfolding parse_strict strict_rules
    after_long = rw (full_long, lt-leb (length s) (2 ^ 30) long)

  -- strict reading is the rules, and then the ordinary reading
  pub rules_first : parse_strict s ≡ and_then (strict_rules s) (λ _. parse_full s)
  rules_first =
      elim (dec_le (length s) (2 ^ 30)) [
        | yes l ↦ after_lent l
        | no l ↦ after_long (omega arith)
      ]

-- ---- what the code returns

module _ (s : List ℕ) where
  -- the rules where the input is too long, where the head is refused, and where it is read
  pub rules_long : 2 ^ 30 < length s → accept tt ≡ strict_rules s
  unfolding strict_rules
  rules_long l = rw (lt-leb (length s) (2 ^ 30) l)

  module _ (lent : length s ≤ 2 ^ 30) where
    pub rules_headless : (e : ℕ) → vvc_head s 0 ≡ refused e → accept tt ≡ strict_rules s
    rules_headless e w = sym (rules_are s lent ∙ rw w)

    pub rules_headed : (h : VvcConfig) (q : ℕ) → vvc_head s 0 ≡ value h q → rules_kept s h (outcome (counted_bytes s q)) ≡ strict_rules s
    rules_headed h q w = sym (rules_are s lent ∙ rw w)

module _ (s : List ℕ) (out : List ℕ) where
  -- a rule is broken
  pub strict_refused : (n : ℕ) → strict_rules s ≡ refuse n → (refuse n, out) ≡ lent_output (parse_strict s) out
  strict_refused n e =
      let g : parse_strict s ≡ refuse n = rules_first s ∙ rw e in
      rw g

  -- no rule is broken
  pub strict_kept : strict_rules s ≡ accept tt → lent_output (parse_full s) out ≡ lent_output (parse_strict s) out
  strict_kept e =
      let g : parse_strict s ≡ parse_full s = rules_first s ∙ rw e in
      rw g
