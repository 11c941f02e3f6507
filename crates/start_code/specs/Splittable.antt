-- What splitting a stream needs of a unit (SCOPE 3.13): `Splittable`.
use Rattle.std.specs.Prelude.{ℕ, ◌+◌, ◌-◌, ◌<◌, ◌≡◌, List, length, get_or}

-- 00 00 and then the byte b are nowhere in u
abbrev pub Lacks : ℕ → List ℕ → Type 0
Lacks b u = (i : ℕ) → i + 2 < length u → get_or u i 0 ≡ 0 → get_or u (i + 1) 0 ≡ 0 → get_or u (i + 2) 0 ≡ b → ⊥

-- u does not contain 00 00 01 and does not end in 00
pub record Clean (u : List ℕ) : Type 0 where
  pub free : Lacks 1 u
  pub ends : 0 < length u → get_or u (length u - 1) 0 ≡ 0 → ⊥

-- a unit that is split off a stream as it is: it is not empty, does not contain 00 00 01 and does not end in 00
pub record Splittable (u : List ℕ) : Type 0 where
  pub some : 0 < length u
  pub clean : Clean u
