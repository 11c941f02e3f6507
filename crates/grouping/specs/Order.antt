-- The order of the grouped units of a compact record (SCOPE 5.2).
use Rattle.std.specs.Prelude.{ℕ, suc, ◌<◌, ◌≡◌, ◌⊎◌, List, [], ◌∷◌, map, eqb, length, get_or, if◌then◌else◌}
use Rattle.nal.specs.Header.{type_or31}

-- the number of the first unit of type t; the number of units where no unit has that type
unfoldable pub first_place : List (List ℕ) → ℕ → ℕ
first_place [] t = 0
first_place (u ∷ us) t = if eqb (type_or31 u) t then 0 else suc (first_place us t)

-- the type of unit i
abbrev pub type_at : List (List ℕ) → ℕ → ℕ
type_at us i = type_or31 (get_or us i [])

-- unit i is before unit j: the first unit of i's type is earlier than that of j's type, or the types are equal and i < j (SCOPE 5.2)
abbrev pub Before : List (List ℕ) → ℕ → ℕ → Type 0
Before us i j = (first_place us (type_at us i) < first_place us (type_at us j)) ⊎ ((type_at us i ≡ type_at us j) × (i < j))

-- gs are the units us in that order, each unit at exactly one place
pub record GroupedAs (us gs : List (List ℕ)) : Type 0 where
  -- unit k of gs is unit (get_or order k 0) of us
  pub order : List ℕ
  pub count : length order ≡ length us
  pub units : gs ≡ map (λ i. get_or us i []) order
  -- every unit of us has a place in gs
  pub each : (i : ℕ) → i < length us → (k : ℕ) × (k < length us) × (get_or order k 0 ≡ i)
  -- and only one
  pub once : (a b : ℕ) → a < length us → b < length us → get_or order a 0 ≡ get_or order b 0 → a ≡ b
  -- place a is before place b exactly when their units are in the order Before
  pub sorted : (a b : ℕ) → a < length us → b < length us → a < b → Before us (get_or order a 0) (get_or order b 0)
  pub sorted_only : (a b : ℕ) → a < length us → b < length us → Before us (get_or order a 0) (get_or order b 0) → a < b
