-- Internal: an item stored, and the one unit of a still found in it.
use Rattle.std.specs.Prelude.{ℕ, ◌+◌, ◌≤◌, ◌≡◌, List, [], length, Option, Some, None}
use Rattle.parse.specs.Outcome.{Outcome, accept, refuse}
use Rattle.boxes.specs.Parts.{held}
use Rattle.boxes.specs.declared.Span.{Span}
use Rattle.compact.specs.ItemData.{restore}
use Rattle.compact.specs.declared.CompactVvcConfig.{CompactVvcConfig}

-- the payload of the one unit, or 24
abbrev pub payload_of : List ℕ → Option Span → Outcome (List ℕ)
payload_of item (Some a) = accept (held item a)
payload_of item None = refuse 24

-- the payload lies in the item
abbrev pub PayloadFits : List ℕ → Option Span → Type 0
PayloadFits item (Some a) = a.start + a.len ≤ length item
PayloadFits item None = Unit {0}

-- the bytes of a restored item; empty on a refusal
abbrev pub restored_bytes : Outcome (List ℕ) → List ℕ
restored_bytes (accept bytes) = bytes
restored_bytes (refuse e) = []

-- the stored bytes restore, and the output has room for the item
pub record Restores (c : CompactVvcConfig) (stored out : List ℕ) : Type 0 where
  pub item : List ℕ
  pub found : restore c stored ≡ accept item
  pub room : length item ≤ length out
