-- Item data restored from stored bytes and stripped to them (SCOPE 3.11 and 4.1; ISO/IEC 23008-12 Amd 2 L.4.3.3.3).
use Rattle.std.specs.Prelude.{ℕ, ◌^◌, Bool, false, ◌&&◌, List, [], ◌∷◌, ◌++◌, leb, eqb, length, drop, if◌then◌else◌, Option, None, Some}
use Rattle.parse.specs.Outcome.{Outcome, accept, refuse, lent_input}
use Rattle.boxes.specs.Bytes.{to_chunk, outside}
use Rattle.boxes.specs.Parts.{held}
use Rattle.boxes.specs.declared.Span.{Span}
use Rattle.nal.specs.Header.{unit_type_of, layer_id_of, temporal_id_plus1_of, nal_header}
use Rattle.split.specs.Item.{item_units}
use Rattle.compact.specs.declared.CompactVvcConfig.{CompactVvcConfig}

-- the unit with the stored bytes as payload: type 8 (IDR_N_LP), layer 0, temporal id plus 1 of 1, so its header is 00 41
abbrev pub still_unit : List ℕ → List ℕ
still_unit stored = nal_header 8 0 1 ++ stored

-- a unit after its length in `size` bytes: 4 for a size outside 1 to 4, 6 for a unit of 256^size bytes or more
abbrev pub prefixed : ℕ → List ℕ → Outcome (List ℕ)
prefixed size u =
    if outside size then refuse 4
    else if leb (256 ^ size) (length u) then refuse 6
    else accept (to_chunk size u)

-- `item_data`: a copy with the flag set, else length, 00 41 and the stored bytes (SCOPE 3.11). Refusals: 23, 4, 6; with an output 20
unfoldable pub restore : CompactVvcConfig → List ℕ → Outcome (List ℕ)
restore c stored =
    lent_input stored (if c.multi_layer_flag then accept stored else prefixed c.length_size (still_unit stored))

-- a field is present and is n
abbrev pub is : ℕ → Option ℕ → Bool
is n None = false
is n (Some m) = eqb m n

-- a unit of type 8, layer 0 and temporal id plus 1 of 1
abbrev pub is_still : List ℕ → Bool
is_still u = is 8 (unit_type_of u) && (is 0 (layer_id_of u) && is 1 (temporal_id_plus1_of u))

-- the payload of the one plain unit: 24 when splitting is refused or the item is anything else (SCOPE 4.1)
abbrev pub only_still : List ℕ → Outcome (List Span) → Outcome (List ℕ)
only_still item (refuse e) = refuse 24
only_still item (accept []) = refuse 24
only_still item (accept (a ∷ [])) = if is_still (held item a) then accept (drop 2 (held item a)) else refuse 24
only_still item (accept (a ∷ b ∷ r)) = refuse 24

-- `strip_item_data`: a copy with the flag set, else the payload of the one unit. Refusals: 23, 24; with an output 20
unfoldable pub strip : CompactVvcConfig → List ℕ → Outcome (List ℕ)
strip c item =
    lent_input item (if c.multi_layer_flag then accept item else only_still item (item_units c.length_size item))
