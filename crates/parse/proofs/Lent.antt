-- Laws of the first test of every call on lent input: 23 above 2 ^ 30 bytes, else what the call returns.
use Prim.Native.Nat.{◌^◌, ◌≤◌, ◌<◌, ℕ}
use mathlib.Core.Path.{◌≡◌}
use mathlib.Core.List.{List}
use lib.ListN.{length}
use borrow.Author.Tests.{le-leb, lt-leb}
use Rattle.parse.specs.Outcome.{Outcome, refuse, lent_input}

module _ {A : Type 0} (s : List ℕ) (o : Outcome A) where
  pub lent_too_long : 2 ^ 30 < length s → lent_input s o ≡ refuse 23
  lent_too_long h = rw (lt-leb (length s) (2 ^ 30) h)

  pub lent_within : length s ≤ 2 ^ 30 → lent_input s o ≡ o
  lent_within h = rw (le-leb (length s) (2 ^ 30) h)
