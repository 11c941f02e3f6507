-- The two rules of strict reading (SCOPE 4.10): the reserved bits, by place, and the types of the arrays. The places are those of the tables in
-- ISO/IEC 14496-15:2024 11.2.4.1 and 11.2.4.2, as `vvc_record` reads them.
use Rattle.std.specs.Prelude.{ℕ, ◌+◌, ◌-◌, ◌/◌, ◌%◌, ◌^◌, Bool, true, ◌&&◌, List, [], ◌∷◌, ltb, eqb, get_or, if◌then◌else◌}
use Rattle.parse.specs.Parse.{value, Parser, ◌>>=◌, ◌>>◌, give, times}
use Rattle.boxes.specs.Bytes.{uint}
use Rattle.nal.specs.Kinds.{is_record_type}
use Rattle.record_arrays.specs.Read.{record_array}
use Rattle.record_arrays.specs.declared.Codec.TheVariants.{Vvc}
use Rattle.full.specs.Read.{vvc_head}
use Rattle.full.specs.declared.VvcConfig.{VvcConfig}

-- the byte after the constraint bytes, with n = num_sublayers above 1: n - 1 flags, then 9 - n bits ptl_reserved_zero_bit
abbrev pub flags_reserved : ℕ → ℕ → Bool
flags_reserved n b = if ltb 1 n then eqb (b % 2 ^ (9 - n)) 0 else true

-- the reserved bits under the PTL flag, in a record s that was read with the head h
abbrev pub ptl_reserved : List ℕ → VvcConfig → Bool
ptl_reserved s h =
    eqb (get_or s 3 0 % 32) 31  -- byte 3: bit_depth_minus8 3, reserved 5 = 11111
    && (eqb (get_or s 4 0 / 64) 0  -- byte 4: reserved 2 = 00, num_bytes_constraint_info 6
    && flags_reserved h.num_sublayers (get_or s (7 + h.native_ptl.num_bytes_constraint_info) 0))

-- the reserved bits of the head; byte 0: reserved 5 = 11111, LengthSizeMinusOne 2, ptl_present_flag 1
unfoldable pub head_reserved : List ℕ → VvcConfig → Bool
head_reserved s h = eqb (get_or s 0 0 / 8) 31 && (if h.ptl_present_flag then ptl_reserved s h else true)

-- an array's byte: array_completeness 1, reserved 2 = 00, NAL_unit_type 5
abbrev pub array_reserved : ℕ → Bool
array_reserved b = eqb (b / 32 % 4) 0

-- the type in an array's byte is one that a record may have: 12 to 17 or 23
abbrev pub array_typed : ℕ → Bool
array_typed b = is_record_type (b % 32)

-- the next byte, without going past it
abbrev pub peek : Parser ℕ
peek s p = value (get_or s p 0) p

-- the byte that an array begins with; the array is read to its end
unfoldable pub array_byte : Parser ℕ
array_byte = do
  b ← peek
  record_array Vvc
  give b

-- the bytes that the arrays of a record begin with
unfoldable pub record_array_bytes : Parser (List ℕ)
record_array_bytes = do
  vvc_head
  n ← uint 1  -- num_of_arrays
  times n array_byte

-- a test of every element
unfoldable pub all : (ℕ → Bool) → List ℕ → Bool
all f [] = true
all f (b ∷ bs) = f b && all f bs

-- every reserved bit is the standard's: s was read with the head h, and its arrays begin with the bytes bs
abbrev pub reserved_kept : List ℕ → VvcConfig → List ℕ → Bool
reserved_kept s h bs = head_reserved s h && all array_reserved bs

-- every array has a type that a record may have
abbrev pub types_kept : List ℕ → Bool
types_kept bs = all array_typed bs
