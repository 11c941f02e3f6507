-- The premises of the whole path about a still (SCOPE 5.1).
use Rattle.std.specs.Prelude.{ℕ, ◌+◌, ◌^◌, ◌≤◌, ◌<◌, ◌≡◌, false, List, [], map, length, get_or}
use Rattle.parse.specs.Outcome.{accept}
use Rattle.parse.specs.Parse.{Parsed, value, refused}
use Rattle.boxes.specs.Parts.{held}
use Rattle.boxes.specs.Bytes.{AllBytes}
use Rattle.boxes.specs.declared.Span.{Span}
use Rattle.start_code.specs.Splittable.{Clean}
use Rattle.grouping.specs.Order.{type_at}
use Rattle.compact.specs.declared.CompactRead.{CompactRead}
use Rattle.compact.specs.Compact.{compact_record, parse_compact}
use Rattle.compact.specs.declared.CompactVvcConfig.{CompactVvcConfig}
use Rattle.expand.specs.declared.Expanded.{Expanded}
use Rattle.expand.specs.Expand.{to_full}
use Rattle.expand.specs.declared.Picture.{Picture}

-- at most one unit has type t
abbrev pub AtMostOne : ℕ → List (List ℕ) → Type 0
AtMostOne t us = (i j : ℕ) → i < j → j < length us → type_at us i ≡ t → type_at us j ≡ t → ⊥

-- the units of a compact record, in order
abbrev units_read : List ℕ → Parsed (CompactVvcConfig × List Span) → List (List ℕ)
units_read C (value r p) = map (held C) r.1
units_read C (refused e) = []

-- the units of C; none if C does not read
abbrev pub units_in : List ℕ → List (List ℕ)
units_in C = units_read C (compact_record C 0)

-- A compact record C that reads and expands, and stored bytes S (SCOPE 5.1).
pub record Still (C S : List ℕ) : Type 0 where
  pub bytes : AllBytes C
  -- C reads
  pub read : CompactRead
  pub list : List ℕ
  pub reads : parse_compact C ≡ accept (read, list)
  -- C expands with some picture; whether it expands does not depend on the picture
  pub picture : Picture
  pub full : Expanded
  pub full_list : List ℕ
  pub expands : to_full read.config picture list ≡ accept (full, full_list)
  -- the multi-layer flag is clear, and the prefix size is 1, 2 or 4
  pub plain : read.config.multi_layer_flag ≡ false
  pub size : read.config.length_size ≡ 3 → ⊥
  pub one_opi : AtMostOne 12 (units_in C)
  pub one_dci : AtMostOne 13 (units_in C)
  -- no unit is empty; no unit, nor S, contains 00 00 01 or ends in 00
  pub some : (k : ℕ) → k < length (units_in C) → 0 < length (get_or (units_in C) k [])
  pub clean : (k : ℕ) → k < length (units_in C) → Clean (get_or (units_in C) k [])
  pub picture_clean : Clean S
  -- S, which may be empty, has at most 2^29 bytes and fits its prefix: 2 + |S| < 256^p
  pub short : length S ≤ 2 ^ 29
  pub fits : 2 + length S < 256 ^ read.config.length_size
