-- Internal: what `fill_rbsp` returns and leaves: as many of the bytes as the output has room for.
use Rattle.std.specs.Prelude.{◌≡◌, List, ℕ, min, length, take}
use Rattle.parse.specs.Outcome.{overlay}

-- out is the output on entry, out' on exit, n the number that the call returns
pub record Front (bytes out out' : List ℕ) (n : ℕ) : Type 0 where
  pub count : n ≡ min (length bytes) (length out)
  pub stands : out' ≡ overlay (take (length out) bytes) out
