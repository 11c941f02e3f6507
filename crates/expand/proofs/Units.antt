-- Units of a list: what holds of each, the type of one, and those of a type with their bytes.
use Prim.Native.Nat.{ℕ, zero, suc, ◌≤◌, ◌<◌}
use native.Mathlib.Omega.{arith}
use mathlib.Core.Path.{◌≡◌, refl, ◌∙◌}
use mathlib.Core.Bool.{Bool, true, false}
use mathlib.Core.List.{List, [], ◌∷◌, ◌++◌, map, map-append}
use lib.Dec.{eqb}
use lib.ListN.{length, get_or}
use Rattle.std.specs.Prelude.{if◌then◌else◌}
use Rattle.boxes.specs.Bytes.{AllBytes}
use Rattle.boxes.specs.Parts.{held}
use Rattle.boxes.specs.declared.Span.{Span}
use Rattle.nal.specs.Header.{largest_unit_type, type_or31}
use Rattle.unit_list.specs.UnitList.{Array, units_of_type, held_arrays}
use Rattle.grouping.proofs.GroupedFits.{Every}

-- what holds of unit k for every k holds of every unit, and conversely
pub every_of : (P : List ℕ → Type 0) (us : List (List ℕ)) → ((k : ℕ) → k < length us → P (get_or us k [])) → Every P us
every_of P [] f = tt
every_of P (u ∷ us) f = (f 0 (omega arith), every_of P us (λ k h. f (suc k) (omega arith)))

pub every_at : (P : List ℕ → Type 0) (us : List (List ℕ)) → Every P us → (k : ℕ) → k < length us → P (get_or us k [])
every_at P [] e k h = absurd (omega arith)
every_at P (u ∷ us) e zero h = e.0
every_at P (u ∷ us) e (suc k) h = every_at P us e.1 k (omega arith)

-- a type is below 32
pub type_small : (u : List ℕ) → AllBytes u → type_or31 u ≤ largest_unit_type
type_small [] b = omega arith
type_small (x ∷ []) b = omega arith
type_small (x ∷ y ∷ u) b = omega (arith, b 1)

-- the units of a type with their bytes are those of the arrays with their bytes
pub units_of_type_held : (x : ℕ) (s : List ℕ) (xs : List (Array Span)) → map (held s) (units_of_type x xs) ≡ units_of_type x (held_arrays s xs)
unfolding units_of_type
units_of_type_held x s [] = refl
units_of_type_held x s (a ∷ xs) = go (eqb a.unit_type x) (units_of_type_held x s xs)
  where
    go : (b : Bool) → map (held s) (units_of_type x xs) ≡ units_of_type x (held_arrays s xs)
        → map (held s) (if b then a.units ++ units_of_type x xs else units_of_type x xs)
        ≡ (if b then map (held s) a.units ++ units_of_type x (held_arrays s xs) else units_of_type x (held_arrays s xs))
    go true e = map-append (held s) a.units (units_of_type x xs) ∙ rw e
    go false e = e
