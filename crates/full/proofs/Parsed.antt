-- What an accepted record says: the arrays that were read, and their list.
use Prim.Native.Nat.{ℕ}
use mathlib.Core.Path.{◌≡◌}
use mathlib.Core.List.{List}
use Rattle.parse.specs.Outcome.{accept}
use Rattle.record_arrays.proofs.Parsed as R
use Rattle.full.specs.Read.{FullParsed, vvc_record, parse_full}

-- an accepted record: the arrays that were read after the head, up to the place that is returned, and their list
abbrev pub ReadAs : List ℕ → FullParsed → List ℕ → Type 0
ReadAs = R.ReadAs vvc_record

pub read_as : (s : List ℕ) (r : FullParsed) (list : List ℕ) → parse_full s ≡ accept (r, list) → ReadAs s r list
unfolding parse_full
read_as s r list h = R.read_as vvc_record s r list h
