-- What holds of a number that is read, and of the place after it.
use Prim.Native.Nat.{ℕ, ◌+◌, ◌≤◌}
use mathlib.Core.Path.{◌≡◌, refl}
use mathlib.Core.List.{List}
use native.Mathlib.Omega.{arith}
use native.Mathlib.Decide.{dec_le}
use lib.ListN.{length}
use Rattle.parse.proofs.Gives.{Gives, gives_value, gives_refused}
use Rattle.boxes.specs.Bytes.{be, uint}
use Rattle.boxes.proofs.Fields.{uint_there, uint_short}

module _ (s : List ℕ) where
  -- a number of w bytes
  pub record NumberFits (w p n q : ℕ) : Type 0 where
    pub is : n ≡ be s p w
    pub next : q ≡ p + w
    pub inside : q ≤ length s

  pub gives_uint : (w p : ℕ) → Gives (uint w s p) (NumberFits w p)
  gives_uint w p =
      elim (dec_le (p + w) (length s)) [
        | yes k ↦ rw (uint_there w s p k) (gives_value _ _ (record { is = refl; next = refl; inside = k }))
        | no k ↦ rw (uint_short w s p (omega arith)) (gives_refused 1)
      ]
