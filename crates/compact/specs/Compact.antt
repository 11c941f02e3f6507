-- The compact record, read and written (SCOPE 3.2 and 4.2; CompactVvcDecoderConfigurationRecord, ISO/IEC 23008-12 Amd 2 L.4.3.3).
use Rattle.std.specs.Prelude.{ℕ, ◌+◌, ◌-◌, ◌*◌, ◌/◌, ◌%◌, Bool, true, not, ◌&&◌, List, [], ◌∷◌, map, leb, ltb, eqb, length, if◌then◌else◌}
use Rattle.parse.specs.Logic.{bit}
use Rattle.parse.specs.Outcome.{Outcome, accept, refuse, lent_input, and_then}
use Rattle.parse.specs.Parse.{value, refused, Parser, ◌>>=◌, ◌>>◌, give, times, outcome}
use Rattle.boxes.specs.Bytes.{uint, chunk, outside}
use Rattle.boxes.specs.Parts.{held}
use Rattle.boxes.specs.declared.Span.{Span}
use Rattle.unit_list.specs.UnitList.{encode, encode_units}
use Rattle.unit_list.specs.Answers.{list_units}
use Rattle.compact.specs.declared.CompactRead.{CompactRead}
use Rattle.compact.specs.declared.CompactVvcConfig.{CompactVvcConfig}

-- the record must end here: 7 if bytes are left
unfoldable pub at_end : Parser (Unit {0})
at_end s p = if ltb p (length s) then refused 7 else value tt p

-- the fields of a compact record's first byte
abbrev pub config_of : ℕ → CompactVvcConfig
config_of b = record { multi_layer_flag = eqb (b / 128) 1; length_size = b / 32 % 4 + 1 }

-- the configuration, and the spans of the units
unfoldable pub compact_record : Parser (CompactVvcConfig × List Span)
compact_record = do
  b ← uint 1  -- multi_layer_flag 1, length_size_minus_one 2, num_nal_units_minus2 5
  units ← times (b % 32 + 2) (chunk 1)  -- nal_unit_length, nal_unit
  at_end
  give (config_of b, units)

-- the unit list of one array with complete 0 and type 0 (SCOPE 3.2)
abbrev pub one_array : List (List ℕ) → List ℕ
one_array us = encode (record { complete = 0; reserved_bit = 0; unit_type = 0; units = us } ∷ [])

-- what is returned, and the list, for r as read from s
abbrev pub parsed_with : List ℕ → CompactVvcConfig × List Span → CompactRead × List ℕ
parsed_with s r =
    (record { config = r.0; unit_count = length r.1; list_length = length (one_array (map (held s) r.1)) }, one_array (map (held s) r.1))

-- `compact_read::parse`. Refusals: 23, 1, 7; with an output 20
unfoldable pub parse_compact : List ℕ → Outcome (CompactRead × List ℕ)
parse_compact s = lent_input s (and_then (outcome (compact_record s 0)) (λ r. accept (parsed_with s r)))

-- every unit has at most n bytes
unfoldable pub all_at_most : ℕ → List (List ℕ) → Bool
all_at_most n [] = true
all_at_most n (u ∷ us) = leb (length u) n && all_at_most n us

-- the first byte of the compact record of n units
abbrev pub compact_first_byte : CompactVvcConfig → ℕ → ℕ
compact_first_byte c n = bit c.multi_layer_flag * 128 + (c.length_size - 1) * 32 + (n - 2)

-- the record of the units us (SCOPE 4.2): 4 for a prefix size outside 1 to 4, 8 for a count outside 2 to 33, 9 for a unit above 255 bytes
unfoldable pub compact_bytes : CompactVvcConfig → List (List ℕ) → Outcome (List ℕ)
compact_bytes c us =
    if outside c.length_size then refuse 4
    else if not (leb 2 (length us) && leb (length us) 33) then refuse 8
    else if not (all_at_most 255 us) then refuse 9
    else accept (compact_first_byte c (length us) ∷ encode_units 1 us)

-- `compact_write::serialize`: the record of the units of a list, in order. Refusals: 23, 21, 4, 8, 9; with an output 20
unfoldable pub serialize_compact : CompactVvcConfig → List ℕ → Outcome (List ℕ)
serialize_compact c list = and_then (list_units list) (λ us. compact_bytes c (map (held list) us))
