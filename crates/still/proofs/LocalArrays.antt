-- A step that writes to a local array that is long enough: its result is at the front, and 20 is not among its refusals.
use Prim.Native.Nat.{ℕ, ◌^◌, ◌≤◌, ◌<◌}
use native.Mathlib.Omega.{arith}
use mathlib.Core.Path.{◌≡◌, refl, sym, ap, ◌∙◌}
use mathlib.Core.Bool.{Bool, true, false}
use mathlib.Core.List.{List}
use lib.Dec.{leb}
use lib.ListN.{length, take, drop, length-append}
use lib.Seq.{take_at}
use Rattle.error.specs.Refusals.{number_of}
use Rattle.error.specs.declared.Refusal.{Refusal}
use Rattle.std.specs.Prelude.{if◌then◌else◌, Option, Result, Ok, Err}
use Rattle.parse.specs.Answers.{answer_of}
use Rattle.parse.specs.Outcome.{Outcome, accept, refuse, and_then, lent_output, counted}
use Rattle.parse.specs.Parse.{outcome}
use Rattle.parse.proofs.Lent.{lent_too_long, lent_within}
use Rattle.parse.proofs.Output.{output_accepted, output_not_accepted}
use Rattle.boxes.specs.Walk.{count_found}
use Rattle.boxes.specs.Bytes.{AllBytes}
use Rattle.boxes.specs.declared.Span.{Span}
use Rattle.compact.specs.declared.CompactRead.{CompactRead}
use Rattle.compact.specs.Compact.{compact_record, parsed_with, parse_compact}
use Rattle.compact.specs.declared.CompactVvcConfig.{CompactVvcConfig}
use Rattle.full.specs.Write.{serialize_full}
use Rattle.full.specs.declared.VvcConfig.{VvcConfig}
use Rattle.expand.specs.declared.Expanded.{Expanded}
use Rattle.expand.specs.Expand.{to_full}
use Rattle.expand.specs.declared.Picture.{Picture}
use Rattle.access_unit.specs.declared.StartCodes.{StartCodes}
use Rattle.still.specs.Stills.{still_record, stream_with, any_picture, still_stream}
use Rattle.still.specs.inner.Steps.{ReadFrom, ExpandedFrom, record_from, stream_expanded, stream_from}
use Rattle.still.proofs.Lists.{list_short, expanded_short, expanded_count}

module _ {A : Type 0} (o : Outcome (A × List ℕ)) (out : List ℕ) (fits : (a : A) (b : List ℕ) → o ≡ accept (a, b) → length b ≤ length out) where
  -- the bytes that were accepted are at the front
  pub record Stored (a : A) (after : List ℕ) : Type 0 where
    pub bytes : List ℕ
    pub given : o ≡ accept (a, bytes)
    pub front : take (length bytes) after ≡ bytes
    pub within : length bytes ≤ length after

  pub stored : (a : A) (after : List ℕ) → ◌≡◌ {A = Outcome A × List ℕ} (accept a, after) (lent_output o out) → Stored a after
  stored a after e =
      let r = output_accepted o out after a (ap (λ (y : Outcome A × List ℕ). y.0) e) (ap (λ (y : Outcome A × List ℕ). y.1) e) in
      let b = r.bytes in
      record {
        bytes = b;
        given = r.given;
        front = ap (take (length b)) r.holds ∙ take_at b (drop (length b) out) (length b) refl;
        within = omega (arith, ap length r.holds, length-append b (drop (length b) out));
      }

  pub not_stored : (n : ℕ) (after : List ℕ) → ◌≡◌ {A = Outcome A × List ℕ} (refuse n, after) (lent_output o out) → o ≡ refuse n
  not_stored n after e = output_not_accepted o out n fits (ap (λ (y : Outcome A × List ℕ). y.0) e)

-- what was said of an answer that is known
answered : {A : Type 0} (r : Result A Refusal) (after : List ℕ) (y : Outcome A × List ℕ) → ◌≡◌ {A = Outcome A × List ℕ} (answer_of r, after) y
    → (x : Result A Refusal) → r ≡ x → ◌≡◌ {A = Outcome A × List ℕ} (answer_of x, after) y
answered {A} r after y said x e = ap (λ (z : Result A Refusal). (answer_of z, after)) (sym e) ∙ said

-- ### compact read

-- the length that is returned is that of the list
list_counted : (C : List ℕ) (r : CompactRead) (list : List ℕ) → parse_compact C ≡ accept (r, list) → r.list_length ≡ length list
unfolding parse_compact
list_counted C r list e = go (leb (length C) (2 ^ 30)) (outcome (compact_record C 0)) e
  where
    go : (b : Bool) (o : Outcome (CompactVvcConfig × List Span))
        → (if b then and_then o (λ x. accept (parsed_with C x)) else refuse 23) ≡ accept (r, list) → r.list_length ≡ length list
    go true (accept x) f =
        let z : parsed_with C x ≡ (r, list) = cc in
        ap (λ (y : CompactRead × List ℕ). y.0.list_length) (sym z) ∙ ap (λ (y : CompactRead × List ℕ). length y.1) z
    go true (refuse n) f = let z : ◌≡◌ {A = ℕ} 0 1 = cc in absurd (omega arith)
    go false o f = let z : ◌≡◌ {A = ℕ} 0 1 = cc in absurd (omega arith)

-- a record that was read, and its list at the front of the array after the call
pub record Read (C : List ℕ) (r : CompactRead) (after : List ℕ) : Type 0 where
  pub given : parse_compact C ≡ accept (r, take r.list_length after)
  pub within : r.list_length ≤ length after
  pub long : length (take r.list_length after) ≡ r.list_length
  pub from : ReadFrom r.config (take r.list_length after)

module _ (C : List ℕ) (bytes : AllBytes C) (out : List ℕ) where
  read_fits : 8554 ≤ length out → (r : CompactRead) (list : List ℕ) → parse_compact C ≡ accept (r, list) → length list ≤ length out
  read_fits room r list e =
      let h = list_short r.config list (record { compact = C; bytes = bytes; read = r; reads = e; config = refl }) in
      omega arith

  read_as : (r : CompactRead) (after : List ℕ) → ◌≡◌ {A = Outcome CompactRead × List ℕ} (accept r, after) (lent_output (parse_compact C) out)
      → 8554 ≤ length out → Read C r after
  read_as r after e room =
      let s = stored (parse_compact C) out (read_fits room) r after e in
      let l : r.list_length ≡ length s.bytes = list_counted C r s.bytes s.given in
      let f : s.bytes ≡ take r.list_length after = sym s.front ∙ ap (λ (k : ℕ). take k after) (sym l) in
      let g : parse_compact C ≡ accept (r, take r.list_length after) = s.given ∙ ap (λ (b : List ℕ). accept (r, b)) f in
      record {
        given = g;
        within = omega (arith, s.within);
        long = ap length (sym f) ∙ sym l;
        from = record { compact = C; bytes = bytes; read = r; reads = g; config = refl };
      }

  -- by the answer of the call
  module _ (r : Result CompactRead Refusal) (after : List ℕ)
      (said : ◌≡◌ {A = Outcome CompactRead × List ℕ} (answer_of r, after) (lent_output (parse_compact C) out)) (room : 8554 ≤ length out) where
    pub was_read : (x : CompactRead) → r ≡ Ok x → Read C x after
    was_read x e = read_as x after (answered r after _ said (Ok x) e) room

    pub not_read : (n : Refusal) → r ≡ Err n → parse_compact C ≡ refuse (number_of n)
    not_read n e = not_stored (parse_compact C) out (read_fits room) (number_of n) after (answered r after _ said (Err n) e)

-- ### expansion

-- an expansion, and its list at the front of the array after the call
pub record WasExpanded (c : CompactVvcConfig) (pic : Picture) (list : List ℕ) (x : Expanded) (after : List ℕ) : Type 0 where
  pub given : to_full c pic list ≡ accept (x, take x.list_length after)
  pub within : x.list_length ≤ length after
  pub long : length (take x.list_length after) ≡ x.list_length
  pub expanded_from : pic.chroma_format_idc ≤ 3 → pic.bit_depth ≤ 15 → ExpandedFrom c x.head (take x.list_length after)

module _ (c : CompactVvcConfig) (pic : Picture) (list : List ℕ) (from : ReadFrom c list) (out : List ℕ) where
  expansion_fits : 8746 ≤ length out → (full : Expanded) (l : List ℕ) → to_full c pic list ≡ accept (full, l) → length l ≤ length out
  expansion_fits room full l e = let h = expanded_short c list from pic full l e in omega arith

  expanded_as : (x : Expanded) (after : List ℕ) → ◌≡◌ {A = Outcome Expanded × List ℕ} (accept x, after) (lent_output (to_full c pic list) out)
      → 8746 ≤ length out → WasExpanded c pic list x after
  expanded_as x after e room =
      let s = stored (to_full c pic list) out (expansion_fits room) x after e in
      let l : x.list_length ≡ length s.bytes = expanded_count c list from pic x s.bytes s.given in
      let f : s.bytes ≡ take x.list_length after = sym s.front ∙ ap (λ (k : ℕ). take k after) (sym l) in
      let g : to_full c pic list ≡ accept (x, take x.list_length after) = s.given ∙ ap (λ (b : List ℕ). accept (x, b)) f in
      record {
        given = g;
        within = omega (arith, s.within);
        long = ap length (sym f) ∙ sym l;
        expanded_from = λ chroma depth. record {
          compact_list = list;
          from = from;
          picture = pic;
          chroma = chroma;
          depth = depth;
          full = x;
          expands = g;
          head = refl;
        };
      }

  -- by the answer of the call
  module _ (r : Result Expanded Refusal) (after : List ℕ)
      (said : ◌≡◌ {A = Outcome Expanded × List ℕ} (answer_of r, after) (lent_output (to_full c pic list) out)) (room : 8746 ≤ length out) where
    pub was_expanded : (x : Expanded) → r ≡ Ok x → WasExpanded c pic list x after
    was_expanded x e = expanded_as x after (answered r after _ said (Ok x) e) room

    pub not_expanded : (n : Refusal) → r ≡ Err n → to_full c pic list ≡ refuse (number_of n)
    not_expanded n e = not_stored (to_full c pic list) out (expansion_fits room) (number_of n) after (answered r after _ said (Err n) e)

-- ### the path, step by step

-- what a later step returns is what the whole path returns
pub given_as : (o whole : Outcome (List ℕ)) (out : List ℕ) (x : Outcome ℕ × List ℕ) → whole ≡ o → x ≡ lent_output (counted o) out
    → x ≡ lent_output (counted whole) out
given_as o whole out x e f = f ∙ ap (λ (y : Outcome (List ℕ)). lent_output (counted y) out) (sym e)

-- the length or the refusal that a later step returns is that of the whole path
pub counted_as : (o whole : Outcome (List ℕ)) (n : Outcome ℕ) → whole ≡ o → n ≡ count_found o → n ≡ count_found whole
counted_as o whole n e f = f ∙ ap count_found (sym e)

pub counted_refused : (whole : Outcome (List ℕ)) (n : ℕ) → whole ≡ refuse n → refuse n ≡ count_found whole
counted_refused whole n e = ap count_found (sym e)

module _ (c : CompactVvcConfig) (pic : Picture) (list : List ℕ) where
  pub record_expanded : (full : Expanded) (l : List ℕ) → to_full c pic list ≡ accept (full, l) → record_from c pic list ≡ serialize_full full.head l
  record_expanded full l e = rw e

  pub record_unexpanded : (n : ℕ) → to_full c pic list ≡ refuse n → record_from c pic list ≡ refuse n
  record_unexpanded n e = rw e

module _ (codes : StartCodes) (c : CompactVvcConfig) (list S : List ℕ) (tols : Option ℕ) where
  pub stream_expanded_lem : (full : Expanded) (l : List ℕ) → to_full c any_picture list ≡ accept (full, l)
      → stream_from codes c list S tols ≡ stream_expanded codes c full.head l S tols
  stream_expanded_lem full l e = rw e

  pub stream_unexpanded : (n : ℕ) → to_full c any_picture list ≡ refuse n → stream_from codes c list S tols ≡ refuse n
  stream_unexpanded n e = rw e

module _ (C : List ℕ) (pic : Picture) where
  pub record_read_lem : (r : CompactRead) (list : List ℕ) → parse_compact C ≡ accept (r, list) → still_record C pic ≡ record_from r.config pic list
  unfolding still_record
  record_read_lem r list e = rw e

  pub record_unread : (n : ℕ) → parse_compact C ≡ refuse n → still_record C pic ≡ refuse n
  unfolding still_record
  record_unread n e = rw e

module _ (codes : StartCodes) (C S : List ℕ) (tols : Option ℕ) where
  pub stream_too_long : 2 ^ 30 < length S → still_stream codes C S tols ≡ refuse 23
  unfolding still_stream stream_with
  stream_too_long h = lent_too_long S _ h

  module _ (lent : length S ≤ 2 ^ 30) where
    pub stream_read : (r : CompactRead) (list : List ℕ) → parse_compact C ≡ accept (r, list)
        → still_stream codes C S tols ≡ stream_from codes r.config list S tols
    unfolding still_stream stream_with
    stream_read r list e = lent_within S _ lent ∙ rw e

    pub stream_unread : (n : ℕ) → parse_compact C ≡ refuse n → still_stream codes C S tols ≡ refuse n
    unfolding still_stream stream_with
    stream_unread n e = lent_within S _ lent ∙ rw e
