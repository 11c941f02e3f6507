-- The operating point of a whole unit: the tests before its bits.
use mathlib.Core.Path.{◌≡◌}
use mathlib.Core.List.{List}
use Rattle.std.specs.Prelude.{None}
use Prim.Native.Nat.{ℕ, ◌^◌, ◌<◌}
use native.Mathlib.Omega.{arith}
use lib.ListN.{length, drop_of_length-le}
use borrow.Author.Tests.{le-leb}
use Rattle.parse.specs.Outcome.{accept}
use Rattle.rbsp.specs.Rbsp.{unescape}
use Rattle.bit_reader.specs.Bits.{u}
use Rattle.opi.specs.Opi.{opi_point, opi_ols_idx}
use Rattle.opi.specs.Answers.{ols_idx_given}

-- without its header a unit has none
pub opi_short : (unit : List ℕ) → length unit < 2 → ols_idx_given unit ≡ accept None
unfolding opi_ols_idx opi_point unescape u
opi_short unit h = rw (le-leb (length unit) (2 ^ 30) (omega arith), drop_of_length-le unit {i = 2} (omega arith))
