-- Laws of reading a compact record: its answers in the order of their tests.
use Prim.Native.Nat.{ℕ, zero, suc, ◌+◌, ◌%◌, ◌^◌, ◌≤◌, ◌<◌}
use mathlib.Core.Path.{◌≡◌, refl, sym, ap, ◌∙◌}
use mathlib.Core.List.{List, [], ◌∷◌, map}
use native.Mathlib.Omega.{arith}
use lib.ListN.{length, get_or}
use borrow.Author.Tests.{le-leb, lt-ltb, le-ltb}
use Rattle.parse.specs.Outcome.{accept, refuse, and_then}
use Rattle.parse.specs.Parse.{Parsed, value, refused, bind, Parser, times, outcome}
use Rattle.parse.proofs.Lent.{lent_too_long}
use Rattle.boxes.specs.Bytes.{chunk}
use Rattle.boxes.specs.Parts.{held}
use Rattle.boxes.specs.declared.Span.{Span}
use Rattle.boxes.proofs.Fields.{uint_there, uint_short}
use Rattle.boxes.proofs.Numbers.{be_one}
use Rattle.unit_list.specs.inner.Written.{unit_bytes}
use Rattle.compact.specs.Compact.{at_end, compact_record, one_array, parsed_with, parse_compact, config_of}
use Rattle.compact.specs.inner.Units.{record_units}
use Rattle.compact.specs.declared.CompactVvcConfig.{CompactVvcConfig}
use Rattle.compact.proofs.OneArray.{list_long}

-- as many units are read as are asked for
length_bind : {A : Type 0} (n : ℕ) (a : A) (y : Parsed (List A)) (us : List A) (q : ℕ)
    → ((vs : List A) (t : ℕ) → y ≡ value vs t → length vs ≡ n) → bind y (λ us t. value (a ∷ us) t) ≡ value us q → length us ≡ suc n
length_bind n a (refused m) us q h e = absurd (let z : ◌≡◌ {A = ℕ} 0 1 = cc in omega arith)
length_bind n a (value vs t) us q h e =
    let z : a ∷ vs ≡ us = cc in
    let l : length vs ≡ n = h vs t refl in
    ap length (sym z) ∙ omega arith

length_first : {A : Type 0} (n : ℕ) (x : Parsed A) (R : ℕ → Parsed (List A)) (us : List A) (q : ℕ)
    → ((r : ℕ) (vs : List A) (t : ℕ) → R r ≡ value vs t → length vs ≡ n) → bind x (λ a r. bind (R r) (λ us t. value (a ∷ us) t)) ≡ value us q
    → length us ≡ suc n
length_first n (refused m) R us q h e = absurd (let z : ◌≡◌ {A = ℕ} 0 1 = cc in omega arith)
length_first n (value a r) R us q h e = length_bind n a (R r) us q (h r) e

pub times_length : {A : Type 0} (P : Parser A) (s : List ℕ) (n p : ℕ) (us : List A) (q : ℕ) → times n P s p ≡ value us q → length us ≡ n
unfolding times
times_length {A} P s zero p us q e = let z : ◌≡◌ {A = List A} [] us = cc in ap length (sym z)
times_length P s (suc n) p us q e = length_first n (P s p) (times n P s) us q (λ r vs t f. times_length P s n r vs t f) e

module _ (s : List ℕ) where
  pub parse_too_long : 2 ^ 30 < length s → parse_compact s ≡ refuse 23
  unfolding parse_compact
  parse_too_long h = lent_too_long s (and_then (outcome (compact_record s 0)) (λ r. accept (parsed_with s r))) h

  module _ (lent : length s ≤ 2 ^ 30) where
    pub parse_empty : length s ≡ 0 → parse_compact s ≡ refuse 1
    unfolding parse_compact compact_record
    parse_empty h = rw (le-leb (length s) (2 ^ 30) lent, uint_short 1 s 0 (omega arith))

    module _ (some : 1 ≤ length s) (n : ℕ) (is-n : n ≡ get_or s 0 0 % 32 + 2) where
      pub parse_short : (m : ℕ) → record_units s n ≡ refused m → parse_compact s ≡ refuse m
      unfolding parse_compact compact_record
      parse_short m e = rw (le-leb (length s) (2 ^ 30) lent, uint_there 1 s 0 (omega arith), be_one s 0, ← is-n, e)

      module _ (us : List Span) (q : ℕ) (e : record_units s n ≡ value us q) where
        pub parse_over : q < length s → parse_compact s ≡ refuse 7
        unfolding parse_compact compact_record at_end
        parse_over h = rw (le-leb (length s) (2 ^ 30) lent, uint_there 1 s 0 (omega arith), be_one s 0, ← is-n, e, lt-ltb q (length s) h)

        pub record_given_lem : length s ≤ q → compact_record s 0 ≡ value (config_of (get_or s 0 0), us) q
        unfolding compact_record at_end
        record_given_lem h = rw (uint_there 1 s 0 (omega arith), be_one s 0, ← is-n, e, le-ltb q (length s) h)

        pub parse_given : length s ≤ q → parse_compact s ≡ accept (parsed_with s (config_of (get_or s 0 0), us))
        unfolding parse_compact compact_record at_end
        parse_given h = rw (le-leb (length s) (2 ^ 30) lent, uint_there 1 s 0 (omega arith), be_one s 0, ← is-n, e, le-ltb q (length s) h)

        pub parse_read : length s ≤ q → (c : CompactVvcConfig) (len : ℕ) → c ≡ config_of (get_or s 0 0) → len ≡ 7 + length (unit_bytes 4 s us)
            → parse_compact s ≡ accept (record { config = c; unit_count = n; list_length = len }, one_array (map (held s) us))
        parse_read h c len f l =
            let m = times_length (chunk 1) s n 1 us q e in
            let k : length (one_array (map (held s) us)) ≡ len = list_long (map (held s) us) ∙ sym l in
            parse_given h ∙ rw (f, m, k)
