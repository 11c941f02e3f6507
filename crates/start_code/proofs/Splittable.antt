-- What splitting a stream needs of a unit, in the terms of the scan for start codes.
use Prim.Native.Nat.{ℕ, ◌-◌, ◌<◌}
use mathlib.Core.Path.{◌≡◌}
use mathlib.Core.List.{List}
use lib.ListN.{length, get_or}
use Rattle.start_code.specs.Splittable.{Splittable}
use Rattle.start_code.proofs.StartCodes.{CodeAt}

module _ (u : List ℕ) (s : Splittable u) where
  pub no_code : (i : ℕ) → CodeAt u i → ⊥
  no_code i c = s.clean.free i c.inside c.first c.second c.third

  pub last_byte : get_or u (length u - 1) 0 ≡ 0 → ⊥
  last_byte = s.clean.ends s.some

pub splittable : (u : List ℕ) → 0 < length u → ((i : ℕ) → CodeAt u i → ⊥) → (get_or u (length u - 1) 0 ≡ 0 → ⊥) → Splittable u
splittable u some none ends = record {
  some = some;
  clean = record { free = λ i a b c d. none i (record { inside = a; first = b; second = c; third = d }); ends = λ _. ends };
}
