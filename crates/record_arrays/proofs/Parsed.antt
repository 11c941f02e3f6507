-- What an accepted record says: the arrays that were read, and their list. The head and what reads the record are any.
use Prim.Native.Nat.{ℕ, ◌^◌}
use mathlib.Core.Path.{◌≡◌, refl, sym, ap, ◌∙◌}
use mathlib.Core.List.{List}
use native.Mathlib.Omega.{arith}
use native.Mathlib.Decide.{dec_le}
use lib.ListN.{length}
use Rattle.parse.specs.Outcome.{accept, lent_input}
use Rattle.parse.specs.Parse.{Parsed, value, refused, Parser}
use Rattle.parse.proofs.Lent.{lent_too_long, lent_within}
use Rattle.boxes.specs.declared.Span.{Span}
use Rattle.unit_list.specs.UnitList.{Array, encode, held_arrays}
use Rattle.record_arrays.specs.Record.{record_parsed}
use Rattle.record_arrays.specs.declared.ParsedRecord.{ParsedRecord}

module _ {H : Type 0} (P : Parser (H × List (Array Span))) where
  -- an accepted record: the arrays that were read after the head, up to the place that is returned, and their list
  pub record ReadAs (s : List ℕ) (r : ParsedRecord H) (list : List ℕ) : Type 0 where
    pub arrays : List (Array Span)
    pub reads : P s 0 ≡ value (r.head, arrays) r.consumed
    pub same : list ≡ encode (held_arrays s arrays)
    pub long : r.list_length ≡ length list

  parsed_as : (s : List ℕ) (x : Parsed (H × List (Array Span))) → P s 0 ≡ x → (r : ParsedRecord H) (list : List ℕ)
      → record_parsed s x ≡ accept (r, list) → ReadAs s r list
  parsed_as s (refused e) w r list h = let z : ◌≡◌ {A = ℕ} 0 1 = cc in absurd (omega arith)
  parsed_as s (value (head, arrays) p) w r list h =
      let parsed : ParsedRecord H = record { head = head; consumed = p; list_length = length (encode (held_arrays s arrays)) } in
      let y : ◌≡◌ {A = ParsedRecord H × List ℕ} (parsed, encode (held_arrays s arrays)) (r, list) = cc in
      let l = ap (λ (v : ParsedRecord H × List ℕ). v.1) y in
      record {
        arrays = arrays;
        reads = w ∙ ap (λ (v : ParsedRecord H × List ℕ). value (v.0.head, arrays) v.0.consumed) y;
        same = sym l;
        long = sym (ap (λ (v : ParsedRecord H × List ℕ). v.0.list_length) y) ∙ ap length l;
      }

  pub read_as : (s : List ℕ) (r : ParsedRecord H) (list : List ℕ) → lent_input s (record_parsed s (P s 0)) ≡ accept (r, list) → ReadAs s r list
  read_as s r list h =
      elim (dec_le (length s) (2 ^ 30)) [
        | yes k ↦ parsed_as s (P s 0) refl r list (sym (lent_within s (record_parsed s (P s 0)) k) ∙ h)
        | no k ↦ absurd (let x = sym (lent_too_long s (record_parsed s (P s 0)) (omega arith)) ∙ h in let z : ◌≡◌ {A = ℕ} 0 1 = cc in omega arith)
      ]
