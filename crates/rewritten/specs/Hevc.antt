-- An HEVC record that was read, written again (SCOPE 4.11): the bytes that were consumed, with the head's reserved bits as the standard has them.
use Rattle.std.specs.Prelude.{ℕ, ◌+◌, ◌/◌, ◌%◌, ◌^◌, ◌≤◌, ◌<◌, ◌≡◌, Bool, true, ◌&&◌, List, eqb, length, get_or, take, if◌then◌else◌}
use Rattle.parse.specs.Outcome.{accept, counted, Writes}
use Rattle.boxes.specs.Bytes.{AllBytes}
use Rattle.hvcc.specs.Read.{HevcParsed, parse_hevc}
use Rattle.hvcc.specs.Write.{serialize_hevc}

-- the byte b at place i of a record, with the head's reserved bits set as the table of ISO/IEC 14496-15 8.3.3.1 has them
unfoldable pub standard_byte : ℕ → ℕ → ℕ
standard_byte i b =
    if eqb i 13 then 240 + b % 16  -- 1111, the high 4 bits of min_spatial_segmentation_idc
    else if eqb i 15 then 252 + b % 4  -- 111111, parallelism_type
    else if eqb i 16 then 252 + b % 4  -- 111111, chroma_format_idc
    else if eqb i 17 then 248 + b % 8  -- 11111, bit_depth_luma_minus8
    else if eqb i 18 then 248 + b % 8  -- 11111, bit_depth_chroma_minus8
    else b

-- the head's reserved bits are the standard's
unfoldable pub head_standard : List ℕ → Bool
head_standard s =
    eqb (get_or s 13 0 / 16) 15 && (eqb (get_or s 15 0 / 4) 63 && (eqb (get_or s 16 0 / 4) 63
    && (eqb (get_or s 17 0 / 8) 31 && eqb (get_or s 18 0 / 8) 31)))

-- A record s was read as r with a list. `serialize` accepts r's head and the list, with any output that is long enough. What it writes is as long as
-- what was consumed; each byte is the one that was read, but for the head's reserved bits; so it is what was consumed exactly when these are the
-- standard's.
pub record HevcRewritten (s : List ℕ) (r : HevcParsed) (list : List ℕ) : Type 0 where
  pub bytes : List ℕ
  pub written : serialize_hevc r.head list ≡ accept bytes
  pub long : length bytes ≡ r.consumed
  pub writes : Writes (counted (serialize_hevc r.head list)) r.consumed bytes
  pub each : (i : ℕ) → i < r.consumed → get_or bytes i 0 ≡ standard_byte i (get_or s i 0)
  pub kept : head_standard s ≡ true → bytes ≡ take r.consumed s
  pub only : bytes ≡ take r.consumed s → head_standard s ≡ true

-- every record that is read, with a list of at most 2^30 bytes; proved in proofs/Hevc.antt
abbrev pub HevcReadRewritten : Type 0
HevcReadRewritten = (s : List ℕ) → AllBytes s → (r : HevcParsed) (list : List ℕ) → parse_hevc s ≡ accept (r, list) → length list ≤ 2 ^ 30
    → HevcRewritten s r list
