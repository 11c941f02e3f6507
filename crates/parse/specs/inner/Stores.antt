-- Internal: what is found and then stored in lent memory.
use Rattle.std.specs.Prelude.{ℕ, ◌+◌, ◌≤◌, ◌≡◌, List, [], length}
use Rattle.parse.specs.Outcome.{Outcome, accept, refuse}

-- the bytes of what was found; empty on a refusal
abbrev pub bytes_of : {A : Type 0} → (A → List ℕ) → Outcome A → List ℕ
bytes_of f (accept a) = f a
bytes_of f (refuse e) = []

-- something was found, and the output has room for its bytes from place `to` on
pub record Puts {A : Type 0} (f : A → List ℕ) (o : Outcome A) (out : List ℕ) (to : ℕ) : Type 0 where
  pub it : A
  pub found : o ≡ accept it
  pub room : to + length (f it) ≤ length out
