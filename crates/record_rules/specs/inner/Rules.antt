-- Internal: what the tests of the two rules return.
use Rattle.std.specs.Prelude.{ℕ, ◌≤◌, Bool, ◌&&◌, List, Option, Some, None}
use Rattle.parse.specs.Outcome.{Outcome, accept, refuse, and_then}
use Rattle.parse.specs.Parse.{Parser, ◌>>=◌, times}
use Rattle.boxes.specs.Bytes.{uint}
use Rattle.full.specs.Rules.{array_reserved, array_typed, array_byte, all, reserved_kept, types_kept}
use Rattle.full.specs.Strict.{holds_or}
use Rattle.full.specs.declared.VvcConfig.{VvcConfig}

-- a head whose level-flag byte can be found: its counts are those that a field of a record holds
pub record SmallHead (h : VvcConfig) : Type 0 where
  pub sublayers : h.num_sublayers ≤ 7
  pub info : h.native_ptl.num_bytes_constraint_info ≤ 63

-- num_of_arrays, and the bytes that the arrays begin with
unfoldable pub counted_bytes : Parser (List ℕ)
counted_bytes = do
  n ← uint 1  -- num_of_arrays
  times n array_byte

-- the tests of the bytes that arrays begin with, where a and b are those of the arrays before them
abbrev pub tested : Bool → Bool → Outcome (List ℕ) → Outcome (Bool × Bool)
tested a b (accept bs) = accept (a && all array_reserved bs, b && all array_typed bs)
tested a b (refuse e) = refuse e

-- both tests; none where an array runs past the end, whose refusal is 1
abbrev pub array_rules_of : Option (Bool × Bool) → Outcome (Bool × Bool)
array_rules_of (Some tests) = accept tests
array_rules_of None = refuse 1

-- both rules in their order, on a record s with the head h and the bytes that its arrays begin with; none is broken where these do not read
abbrev pub rules_kept : List ℕ → VvcConfig → Outcome (List ℕ) → Outcome (Unit {0})
rules_kept s h (accept bs) = and_then (holds_or 25 (reserved_kept s h bs)) (λ _. holds_or 26 (types_kept bs))
rules_kept s h (refuse e) = accept tt
