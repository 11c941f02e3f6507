-- An HEVC record read after it was written (SCOPE 4.11): the same head and the same arrays. The claims are `HevcReadAfterSerialize` and
-- `HevcReadAfterSerialize01`.
use Rattle.std.specs.Prelude.{ℕ, ◌^◌, ◌<◌, ◌≡◌, List, length, get_or}
use Rattle.parse.specs.Outcome.{accept}
use Rattle.boxes.specs.Bytes.{AllBytes}
use Rattle.unit_list.specs.UnitList.{in_version}
use Rattle.hvcc.specs.Read.{parse_hevc}
use Rattle.hvcc.specs.Write.{serialize_hevc}
use Rattle.hvcc.specs.declared.HevcConfig.{HevcConfig}

-- a head as the code has it: the numbers whose field is as wide as their type fit it
pub record Typed (h : HevcConfig) : Type 0 where
  pub compatibility : h.general_profile_compatibility_flags < 2 ^ 32
  pub level : h.general_level_idc < 256
  pub rate : h.avg_frame_rate < 65536

-- The claim, proved in proofs/Serialized.antt: when `serialize` accepts a head and a list of bytes, `parse` of the result returns that head and that
-- list in version 01, and consumes all bytes. No record that is written is longer than 2^30 bytes, so 23 cannot occur.
abbrev pub HevcReadAfterSerialize : Type 0
HevcReadAfterSerialize =
    (h : HevcConfig) → Typed h → (list : List ℕ) → AllBytes list → (b : List ℕ) → serialize_hevc h list ≡ accept b
    → (wide : List ℕ) → in_version 1 list ≡ accept wide
    → parse_hevc b ≡ accept (record { head = h; consumed = length b; list_length = length wide }, wide)

-- The claim for a list of version 01, whose first byte is 01: `parse` of what `serialize` wrote returns that head and the list itself, and consumes
-- all bytes.
abbrev pub HevcReadAfterSerialize01 : Type 0
HevcReadAfterSerialize01 =
    (h : HevcConfig) → Typed h → (list : List ℕ) → AllBytes list → get_or list 0 0 ≡ 1 → (b : List ℕ) → serialize_hevc h list ≡ accept b
    → parse_hevc b ≡ accept (record { head = h; consumed = length b; list_length = length list }, list)
