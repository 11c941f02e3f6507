-- The full record read strictly (SCOPE 4.10): as `parse_full` reads it, and then the two rules of Rules.antt.
use Rattle.std.specs.Prelude.{ℕ, Bool, List, if◌then◌else◌}
use Rattle.parse.specs.Outcome.{Outcome, accept, refuse}
use Rattle.parse.specs.Parse.{outcome}
use Rattle.parse.specs.Steps.{◌>>=◌, ◌>>◌}
use Rattle.full.specs.Read.{FullParsed, parse_full}
use Rattle.full.specs.Rules.{record_array_bytes, reserved_kept, types_kept}

-- refused with e unless the test holds
abbrev pub holds_or : ℕ → Bool → Outcome (Unit {0})
holds_or e b = if b then accept tt else refuse e

-- `full_read::parse_strict`. Refusals: those of `parse_full`, then 25 and 26; with an output 20
unfoldable pub parse_strict : List ℕ → Outcome (FullParsed × List ℕ)
parse_strict s = do
  r ← parse_full s
  bs ← outcome (record_array_bytes s 0)  -- a record that reads has its arrays, so this is never a refusal
  holds_or 25 (reserved_kept s r.0.head bs)
  holds_or 26 (types_kept bs)
  accept r
