-- One still in one call (SCOPE 4.7): the steps one after the other; the first refusal is that of the call. No step has an output of its own, so 20 is
-- about the result alone.
use Rattle.std.specs.Prelude.{ℕ, List, Option}
use Rattle.parse.specs.Outcome.{Outcome, lent_input}
use Rattle.parse.specs.Steps.{◌>>=◌}
use Rattle.compact.specs.Compact.{parse_compact}
use Rattle.compact.specs.ItemData.{restore}
use Rattle.full.specs.Read.{parse_full}
use Rattle.full.specs.Write.{serialize_full}
use Rattle.expand.specs.Expand.{to_full}
use Rattle.expand.specs.declared.Picture.{Picture}
use Rattle.access_unit.specs.AccessUnit.{assemble}
use Rattle.access_unit.specs.declared.StartCodes.{StartCodes}

-- the full record of C with the caller's picture: compact read, expand, full write
unfoldable pub still_record : List ℕ → Picture → Outcome (List ℕ)
still_record C pic = do
  read ← parse_compact C
  full ← to_full read.0.config pic read.1
  serialize_full full.0.head full.1

-- the stream of C and S with a picture: compact read, expand, full write, full read, restore, assemble. 23 of S comes first
unfoldable pub stream_with : StartCodes → Picture → List ℕ → List ℕ → Option ℕ → Outcome (List ℕ)
stream_with codes pic C S tols = lent_input S do
  read ← parse_compact C
  full ← to_full read.0.config pic read.1
  bytes ← serialize_full full.0.head full.1
  back ← parse_full bytes
  item ← restore read.0.config S
  assemble codes back.0.head back.1 item tols

-- the stream does not depend on the picture (`any_picture_lem`, crates/still/proofs/Pictures.antt)
abbrev pub any_picture : Picture
any_picture = record { chroma_format_idc = 1; bit_depth = 8; width = 0; height = 0 }

-- so `still_stream` takes no picture
unfoldable pub still_stream : StartCodes → List ℕ → List ℕ → Option ℕ → Outcome (List ℕ)
still_stream codes C S tols = stream_with codes any_picture C S tols
