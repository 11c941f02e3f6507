-- The unit list (SCOPE 2; the original's `arrays`): the version, then arrays. An array: a length for all that follows in it, the complete byte (bit 0
-- complete, bit 1 the array's reserved bit, no other bits), type (0 to 63), then units, each after its length. Lengths have 4 bytes in version 01 and
-- 2 bytes in version 02; all else is equal.
use Rattle.std.specs.Prelude.{ℕ, ◌+◌, ◌*◌, ◌/◌, ◌%◌, Bool, true, ◌&&◌, List, [], ◌∷◌, ◌++◌, map, eqb, leb, ltb, length, if◌then◌else◌}
use Rattle.parse.specs.Outcome.{Outcome, accept, and_then, lent_input}
use Rattle.parse.specs.Parse.{Parser, ◌>>=◌, ◌>>◌, give, refuse_if, many, outcome_or}
use Rattle.boxes.specs.Bytes.{uint, chunk, to_chunk, inside}
use Rattle.boxes.specs.Parts.{held}
use Rattle.boxes.specs.declared.Span.{Span}

-- An array (the original's VvcNalArray and NalArray). Its units are spans (U is Span) or bytes (U is List ℕ).
pub record Array (U : Type 0) : Type 0 where
  pub complete : ℕ
  pub reserved_bit : ℕ  -- that of HEVC's arrays; 0 in VVC's
  pub unit_type : ℕ
  pub units : List U

-- the largest type that an array may have: HEVC's types have 6 bits, VVC's have 5
abbrev pub largest_type : ℕ
largest_type = 63

-- an array with the complete byte b
abbrev pub array_with : {U : Type 0} → ℕ → ℕ → List U → Array U
array_with b t us = record { complete = b % 2; reserved_bit = b / 2; unit_type = t; units = us }

-- the complete byte of an array
abbrev pub complete_byte : {U : Type 0} → Array U → ℕ
complete_byte a = a.reserved_bit * 2 + a.complete

-- what follows an array's length; the lengths of its units have w bytes
unfoldable pub array_rest : ℕ → Parser (Array Span)
array_rest w = do
  b ← uint 1  -- the complete byte
  refuse_if (ltb 3 b) 21
  t ← uint 1
  refuse_if (ltb largest_type t) 21
  us ← many (chunk w)
  give (array_with b t us)

-- an array: its length, and what follows, which is read within that length
unfoldable pub array : ℕ → Parser (Array Span)
array w = do
  rest ← chunk w
  inside rest (array_rest w)

-- how many bytes a length has in a list of version v; 0 for another version than 01 and 02
abbrev pub length_width : ℕ → ℕ
length_width v = if eqb v 1 then 4 else (if eqb v 2 then 2 else 0)

-- the version, then arrays up to the end
unfoldable pub unit_list : Parser (List (Array Span))
unit_list = do
  version ← uint 1
  refuse_if (eqb (length_width version) 0) 21
  many (array (length_width version))

-- The arrays of a list. Refusals: 23; then 21 for a list without a byte, a version other than 01 and 02, a complete byte above 3, a type above 63,
-- or a field or a length that goes past the end of its list or array.
unfoldable pub decode : List ℕ → Outcome (List (Array Span))
decode s = lent_input s (outcome_or 21 (unit_list s 0))

-- all units, in order
unfoldable pub units_of : {U : Type 0} → List (Array U) → List U
units_of [] = []
units_of (a ∷ xs) = a.units ++ units_of xs

-- the units in the arrays of a type, whatever the units' headers are
unfoldable pub units_of_type : {U : Type 0} → ℕ → List (Array U) → List U
units_of_type t [] = []
units_of_type t (a ∷ xs) = if eqb a.unit_type t then a.units ++ units_of_type t xs else units_of_type t xs

-- an array with the bytes that its units have in s
abbrev pub held_array : List ℕ → Array Span → Array (List ℕ)
held_array s a = record { complete = a.complete; reserved_bit = a.reserved_bit; unit_type = a.unit_type; units = map (held s) a.units }

abbrev pub held_arrays : List ℕ → List (Array Span) → List (Array (List ℕ))
held_arrays s xs = map (held_array s) xs

-- written: the units of an array, each after its length of w bytes
unfoldable pub encode_units : ℕ → List (List ℕ) → List ℕ
encode_units w [] = []
encode_units w (u ∷ us) = to_chunk w u ++ encode_units w us

-- what follows an array's length
abbrev pub encode_rest : ℕ → Array (List ℕ) → List ℕ
encode_rest w a = complete_byte a ∷ a.unit_type ∷ encode_units w a.units

-- an array after its length
unfoldable pub encode_array : ℕ → Array (List ℕ) → List ℕ
encode_array w a = to_chunk w (encode_rest w a)

unfoldable pub encode_arrays : ℕ → List (Array (List ℕ)) → List ℕ
encode_arrays w [] = []
encode_arrays w (a ∷ xs) = encode_array w a ++ encode_arrays w xs

-- a list of version v: the version, then the arrays
abbrev pub encode_as : ℕ → List (Array (List ℕ)) → List ℕ
encode_as v xs = v ∷ encode_arrays (length_width v) xs

-- how many bytes a length has in the lists that calls write
abbrev pub list_width : ℕ
list_width = length_width 1

-- the list that calls write: version 01
unfoldable pub encode : List (Array (List ℕ)) → List ℕ
encode xs = encode_as 1 xs

-- the arrays of a list with the bytes of their units: 23, 21
abbrev pub contents : List ℕ → Outcome (List (Array (List ℕ)))
contents s = and_then (decode s) (λ xs. accept (held_arrays s xs))

-- the list of version v that has these arrays: 23, 21
abbrev pub in_version : ℕ → List ℕ → Outcome (List ℕ)
in_version v s = and_then (contents s) (λ xs. accept (encode_as v xs))

-- every unit has at most 65,535 bytes, so that two bytes hold its length
unfoldable pub units_fit : List (List ℕ) → Bool
units_fit [] = true
units_fit (u ∷ us) = leb (length u) 65535 && units_fit us

-- no length, an array's or a unit's, is above 65,535 where lengths have w bytes
unfoldable pub lengths_fit : ℕ → List (Array (List ℕ)) → Bool
lengths_fit w [] = true
lengths_fit w (a ∷ xs) = (leb (length (encode_rest w a)) 65535 && units_fit a.units) && lengths_fit w xs
