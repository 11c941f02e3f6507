-- Laws of the entries in use, by the length of the list and the sum of the totals.
use Prim.Native.Nat.{ℕ, ◌^◌, ◌≤◌, ◌<◌}
use mathlib.Core.Path.{◌≡◌, refl}
use mathlib.Core.Bool.{Bool, true, false}
use mathlib.Core.List.{List}
use native.Mathlib.Omega.{arith}
use lib.Dec.{leb}
use lib.ListN.{length}
use borrow.Author.Tests.{leb-true, le-leb, lt-leb}
use Rattle.std.specs.Prelude.{if◌then◌else◌}
use Rattle.parse.specs.Outcome.{accept, refuse}
use Rattle.directory.specs.Directory.{sum, in_use}

module _ (s totals : List ℕ) (room : ℕ) where
  pub used_too_long : 2 ^ 30 < length s → refuse 23 ≡ in_use s totals room
  unfolding in_use
  used_too_long h = rw (lt-leb (length s) (2 ^ 30) h)

  module _ (lent : length s ≤ 2 ^ 30) where
    pub used_outnumber : room < sum totals → refuse 1 ≡ in_use s totals room
    unfolding in_use
    used_outnumber h = rw (le-leb (length s) (2 ^ 30) lent, lt-leb (sum totals) room h)

    pub used_fit : sum totals ≤ room → accept (sum totals) ≡ in_use s totals room
    unfolding in_use
    used_fit h = rw (le-leb (length s) (2 ^ 30) lent, le-leb (sum totals) room h)

-- they are at most those of the directory
pub used_fits : (s totals : List ℕ) (room n : ℕ) → accept n ≡ in_use s totals room → n ≤ room
unfolding in_use
used_fits s totals room n = go (leb (length s) (2 ^ 30)) (leb (sum totals) room) refl
  where
    go : (b c : Bool) → leb (sum totals) room ≡ c → accept n ≡ (if b then (if c then accept (sum totals) else refuse 1) else refuse 23) → n ≤ room
    go true true h e = let f : n ≡ sum totals = cc in omega (arith, leb-true (sum totals) room h)
    go true false h e = absurd (let z : ◌≡◌ {A = ℕ} 0 1 = cc in omega arith)
    go false c h e = absurd (let z : ◌≡◌ {A = ℕ} 0 1 = cc in omega arith)
