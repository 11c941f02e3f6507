-- The two-byte header of a unit (H.266 7.3.1.2, nal_unit_header; SCOPE 3.3): forbidden_zero_bit 1, nuh_reserved_zero_bit 1,
-- nuh_layer_id 6, nal_unit_type 5, nuh_temporal_id_plus1 3. The two top bits are not read.
use Rattle.std.specs.Prelude.{ℕ, ◌+◌, ◌*◌, ◌/◌, ◌%◌, List, [], ◌∷◌, Option, None, Some}

-- the low 6 bits of byte 0, absent where that byte is
abbrev pub layer_id_of : List ℕ → Option ℕ
layer_id_of [] = None
layer_id_of (b ∷ u) = Some (b % 64)

-- bits 7 to 3 of byte 1, absent where that byte is
abbrev pub unit_type_of : List ℕ → Option ℕ
unit_type_of [] = None
unit_type_of (a ∷ []) = None
unit_type_of (a ∷ b ∷ u) = Some (b / 8)

-- the low 3 bits of byte 1, absent where that byte is
abbrev pub temporal_id_plus1_of : List ℕ → Option ℕ
temporal_id_plus1_of [] = None
temporal_id_plus1_of (a ∷ []) = None
temporal_id_plus1_of (a ∷ b ∷ u) = Some (b % 8)

-- the largest type: nal_unit_type has 5 bits
abbrev pub largest_unit_type : ℕ
largest_unit_type = 31

-- the type, 31 where byte 1 is absent: kinds and groups go by it
abbrev pub type_or31 : List ℕ → ℕ
type_or31 [] = largest_unit_type
type_or31 (a ∷ []) = largest_unit_type
type_or31 (a ∷ b ∷ u) = b / 8

-- the two bytes of a header, each field cut to its width
abbrev pub nal_header : ℕ → ℕ → ℕ → List ℕ
nal_header type layer temporal = layer % 64 ∷ (type % 32 * 8 + temporal % 8) ∷ []
