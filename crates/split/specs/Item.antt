-- Items: units, each after its length (SCOPE 3.12; ISO/IEC 14496-15 4.3.3, the sample format).
use Rattle.std.specs.Prelude.{ℕ, List, [], ◌∷◌, ◌++◌, eqb, if◌then◌else◌}
use Rattle.parse.specs.Outcome.{Outcome, refuse, lent_input}
use Rattle.parse.specs.Parse.{Parser, ◌>>=◌, ◌>>◌, refuse_if, many, outcome}
use Rattle.boxes.specs.Bytes.{uint, bytes, to_chunk, outside}
use Rattle.boxes.specs.declared.Span.{Span}

-- NALUnitLength and NALUnit: in byte order 1, and 5 directly after a length of 0
unfoldable pub item_unit : ℕ → Parser Span
item_unit size = do
  n ← uint size
  refuse_if (eqb n 0) 5
  bytes n

-- the units of an item: 4, then in byte order 1 and 5
unfoldable pub item_units : ℕ → List ℕ → Outcome (List Span)
item_units size item = if outside size then refuse 4 else outcome (many (item_unit size) item 0)

-- `split_length_prefixed`: 23, 4, then in byte order 1 and 5
unfoldable pub split_item : ℕ → List ℕ → Outcome (List Span)
split_item size item = lent_input item (item_units size item)

-- written: units, each after its length
unfoldable pub to_item : ℕ → List (List ℕ) → List ℕ
to_item size [] = []
to_item size (u ∷ us) = to_chunk size u ++ to_item size us
