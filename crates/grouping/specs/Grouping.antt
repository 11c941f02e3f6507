-- Units grouped by type (SCOPE 3.8, step 4; ISO/IEC 23008-12 Amd 2 L.4.3.3.4). A unit without byte 1 has type 31.
use Rattle.std.specs.Prelude.{ℕ, List, [], ◌∷◌, map, eqb, if◌then◌else◌, Option, None, Some}
use Rattle.nal.specs.Header.{type_or31}
use Rattle.unit_list.specs.UnitList.{Array}

-- the units of type t, in their order
unfoldable pub having_type : ℕ → List (List ℕ) → List (List ℕ)
having_type t [] = []
having_type t (u ∷ us) = if eqb (type_or31 u) t then u ∷ having_type t us else having_type t us

-- a list without every occurrence of t
unfoldable pub without : ℕ → List ℕ → List ℕ
without t [] = []
without t (x ∷ xs) = if eqb x t then without t xs else x ∷ without t xs

-- each number once, in the order of first occurrence
unfoldable pub firsts : List ℕ → List ℕ
firsts [] = []
firsts (t ∷ ts) = t ∷ without t (firsts ts)

-- the array of type t: complete, with the units of that type
abbrev pub group : List (List ℕ) → ℕ → Array (List ℕ)
group us t = record { complete = 1; reserved_bit = 0; unit_type = t; units = having_type t us }

-- one array for each type that occurs, in the order in which the types first occur (SCOPE 3.8)
unfoldable pub grouped : List (List ℕ) → List (Array (List ℕ))
grouped us = map (group us) (firsts (map type_or31 us))

-- the first element of a list, none of the empty list
abbrev pub first_element : {A : Type 0} → List A → Option A
first_element [] = None
first_element (u ∷ us) = Some u
