-- A full record that was read, written again (SCOPE 4.10). The claims are proved in proofs/Rewritten.antt, for records that are lists of bytes.
use Rattle.std.specs.Prelude.{ℕ, ◌^◌, ◌≤◌, ◌≡◌, true, List, length, take}
use Rattle.parse.specs.Outcome.{accept, refuse, overlay, lent_output, counted}
use Rattle.parse.specs.Parse.{value}
use Rattle.boxes.specs.Bytes.{AllBytes}
use Rattle.full.specs.Read.{FullParsed, parse_full}
use Rattle.full.specs.Write.{serialize_full}
use Rattle.full.specs.Rules.{record_array_bytes, reserved_kept}
use Rattle.full.specs.Strict.{parse_strict}

-- A record s was read as r with a list. What `serialize` writes for r's head and the list is as long as what was consumed; it is what was consumed
-- exactly when every reserved bit is the standard's, and `parse_strict` returns 25 exactly when it is not.
pub record Rewritten (s : List ℕ) (r : FullParsed) (list : List ℕ) : Type 0 where
  pub bytes : List ℕ
  pub written : serialize_full r.head list ≡ accept bytes
  pub long : length bytes ≡ r.consumed
  pub starts : List ℕ  -- the bytes that the arrays of s begin with
  pub read : record_array_bytes s 0 ≡ value starts r.consumed
  pub kept : reserved_kept s r.head starts ≡ true → bytes ≡ take r.consumed s
  pub only : bytes ≡ take r.consumed s → reserved_kept s r.head starts ≡ true
  pub told : (bytes ≡ take r.consumed s → ⊥) → parse_strict s ≡ refuse 25
  pub meant : parse_strict s ≡ refuse 25 → bytes ≡ take r.consumed s → ⊥

-- every record that the ordinary reader accepts, with a list of at most 2^30 bytes
abbrev pub ReadRewritten : Type 0
ReadRewritten = (s : List ℕ) → AllBytes s → (r : FullParsed) (list : List ℕ) → parse_full s ≡ accept (r, list) → length list ≤ 2 ^ 30
    → Rewritten s r list

-- a record that `parse_strict` accepts, with such a list: `serialize` writes exactly the consumed bytes to an output that is long enough
abbrev pub StrictRewritten : Type 0
StrictRewritten = (s : List ℕ) → AllBytes s → (r : FullParsed) (list : List ℕ) → parse_strict s ≡ accept (r, list) → length list ≤ 2 ^ 30
    → (out : List ℕ) → r.consumed ≤ length out
    → lent_output (counted (serialize_full r.head list)) out ≡ (accept r.consumed, overlay (take r.consumed s) out)
