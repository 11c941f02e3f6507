-- Whether every element is a byte, as a test that computes.
use Prim.Native.Nat.{ℕ, zero, suc}
use mathlib.Core.Path.{◌≡◌}
use mathlib.Core.Bool.{Bool, true, ◌&&◌}
use mathlib.Core.List.{List, [], ◌∷◌}
use native.Mathlib.Omega.{arith}
use lib.Dec.{ltb}
use borrow.Author.Tests.{ltb-true}
use Rattle.parse.proofs.General.{both_true}
use Rattle.boxes.specs.Bytes.{AllBytes}

unfoldable pub all_bytes : List ℕ → Bool
all_bytes [] = true
all_bytes (x ∷ s) = ltb x 256 && all_bytes s

pub bytes_of : (s : List ℕ) → all_bytes s ≡ true → AllBytes s
unfolding all_bytes
bytes_of [] e i = omega arith
bytes_of (x ∷ s) e zero = ltb-true x 256 (both_true (ltb x 256) (all_bytes s) e).0
bytes_of (x ∷ s) e (suc i) = bytes_of s (both_true (ltb x 256) (all_bytes s) e).1 i
