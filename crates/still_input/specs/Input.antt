-- What the program answers to its standard input: the length of a compact record in two bytes, the record, and the stored bytes.
use Rattle.std.specs.Prelude.{ℕ, ◌+◌, List, ltb, length, drop, if◌then◌else◌, None}
use Rattle.parse.specs.Outcome.{Outcome, refuse}
use Rattle.parse.specs.Parse.{outcome}
use Rattle.parse.specs.Steps.{◌>>=◌}
use Rattle.boxes.specs.Bytes.{chunk}
use Rattle.boxes.specs.Parts.{held}
use Rattle.access_unit.specs.declared.StartCodes.TheVariants.{Four}
use Rattle.still.specs.Stills.{still_stream}

-- 23 above 64 KiB; 1 where the compact record runs past the end; then the refusals of a still's stream, with no target
unfoldable pub input_stream : List ℕ → Outcome (List ℕ)
input_stream s =
    if ltb 65536 (length s) then refuse 23
    else do
      a ← outcome (chunk 2 s 0)
      still_stream Four (held s a) (drop (a.start + a.len) s) None
