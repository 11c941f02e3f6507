-- What grouping keeps of the units: their number, their lengths, what holds of each; and the grouped list can be read.
use Prim.Native.Nat.{ℕ, suc, ◌+◌, ◌*◌, ◌≤◌}
use native.Mathlib.Omega.{arith}
use native.Mathlib.Nat.{mul-suc}
use mathlib.Core.Path.{◌≡◌, refl, ap, ◌∙◌}
use mathlib.Core.Bool.{Bool, true, false}
use mathlib.Core.List.{List, [], ◌∷◌, ◌++◌, map}
use lib.Dec.{eqb}
use lib.ListN.{length, get_or, length-append, length-map}
use borrow.Author.Tests.{eq-eqb}
use Rattle.std.specs.Prelude.{if◌then◌else◌}
use Rattle.boxes.specs.Bytes.{to_chunk}
use Rattle.boxes.proofs.ChunkBytes.{length_to_chunk}
use Rattle.nal.specs.Header.{largest_unit_type, type_or31}
use Rattle.unit_list.specs.UnitList.{Array, complete_byte, units_of, encode_units, encode_array, encode_arrays, encode, list_width}
use Rattle.unit_list.proofs.Arrays.{Sound, sound_none, sound_more}
use Rattle.grouping.specs.Grouping.{having_type, without, firsts, group, grouped}
use Rattle.grouping.proofs.Grouping.{grouped_as}

-- P holds of every unit
abbrev pub Every : (List ℕ → Type 0) → List (List ℕ) → Type 0
Every P [] = Unit {0}
Every P (u ∷ us) = P u × Every P us

every_append : (P : List ℕ → Type 0) (us vs : List (List ℕ)) → Every P us → Every P vs → Every P (us ++ vs)
every_append P [] vs e f = f
every_append P (u ∷ us) vs e f = (e.0, every_append P us vs e.1 f)

-- The units of type t are among the units.
module _ (t : ℕ) where
  having_if : (c : Bool) (P : List ℕ → Type 0) (u : List ℕ) (us : List (List ℕ)) → P u → Every P us → Every P (if c then u ∷ us else us)
  having_if true P u us p e = (p, e)
  having_if false P u us p e = e

  pub every_having : (P : List ℕ → Type 0) (us : List (List ℕ)) → Every P us → Every P (having_type t us)
  unfolding having_type
  every_having P [] e = tt
  every_having P (u ∷ us) e = having_if (eqb (type_or31 u) t) P u (having_type t us) e.0 (every_having P us e.1)

  if_le : (c : Bool) (u : List ℕ) (us : List (List ℕ)) (n : ℕ) → length us ≤ n → length (if c then u ∷ us else us) ≤ suc n
  if_le true u us n h = omega arith
  if_le false u us n h = omega arith

  pub having_le : (us : List (List ℕ)) → length (having_type t us) ≤ length us
  unfolding having_type
  having_le [] = omega arith
  having_le (u ∷ us) = if_le (eqb (type_or31 u) t) u (having_type t us) (length us) (having_le us)

-- What holds of the type of every unit holds of every type that occurs.
abbrev pub EachOf : (ℕ → Type 0) → List ℕ → Type 0
EachOf P [] = Unit {0}
EachOf P (x ∷ xs) = P x × EachOf P xs

pub without_of : (P : ℕ → Type 0) (t : ℕ) (xs : List ℕ) → EachOf P xs → EachOf P (without t xs)
unfolding without
without_of P t [] e = tt
without_of P t (x ∷ xs) e = go (eqb x t) (without_of P t xs e.1)
  where
    go : (c : Bool) → EachOf P (without t xs) → EachOf P (if c then without t xs else x ∷ without t xs)
    go true f = f
    go false f = (e.0, f)

without_le : (t : ℕ) (xs : List ℕ) → length (without t xs) ≤ length xs
unfolding without
without_le t [] = omega arith
without_le t (x ∷ xs) = go (eqb x t) (without_le t xs)
  where
    go : (c : Bool) → length (without t xs) ≤ length xs → length (if c then without t xs else x ∷ without t xs) ≤ suc (length xs)
    go true h = omega arith
    go false h = omega arith

firsts_le : (ts : List ℕ) → length (firsts ts) ≤ length ts
unfolding firsts
firsts_le [] = omega arith
firsts_le (t ∷ ts) = omega (arith, without_le t (firsts ts), firsts_le ts)

-- type t occurs, and is at most 31
abbrev pub Has-units : List (List ℕ) → ℕ → Type 0
Has-units us t = (1 ≤ length (having_type t us)) × (t ≤ largest_unit_type)

more_units : (c : Bool) (u : List ℕ) (vs : List (List ℕ)) → 1 ≤ length vs → 1 ≤ length (if c then u ∷ vs else vs)
more_units true u vs h = omega arith
more_units false u vs h = h

has_more : (u : List ℕ) (us : List (List ℕ)) (ts : List ℕ) → EachOf (Has-units us) ts → EachOf (Has-units (u ∷ us)) ts
unfolding having_type
has_more u us [] e = tt
has_more u us (t ∷ ts) e = ((more_units (eqb (type_or31 u) t) u (having_type t us) e.0.0, e.0.1), has_more u us ts e.1)

pub types_have : (us : List (List ℕ)) → Every (λ u. type_or31 u ≤ largest_unit_type) us → EachOf (Has-units us) (firsts (map type_or31 us))
unfolding firsts having_type
types_have [] e = tt
types_have (u ∷ us) e = (
  (rw (eq-eqb (type_or31 u) (type_or31 u) refl) (omega arith), e.0),
  without_of (Has-units (u ∷ us)) (type_or31 u) (firsts (map type_or31 us)) (has_more u us (firsts (map type_or31 us)) (types_have us e.1)),
)

-- The grouped list can be read, whatever the types are.
module _ (us : List (List ℕ)) (types : Every (λ u. type_or31 u ≤ largest_unit_type) us) where
  groups_sound : (ts : List ℕ) → EachOf (Has-units us) ts → Sound (map (group us) ts)
  groups_sound [] e = sound_none
  groups_sound (t ∷ ts) e = sound_more {a = group us t} (omega arith) (omega arith) (omega (arith, e.0.1)) (groups_sound ts e.1)

  pub grouped_sound : Sound (grouped us)
  unfolding grouped
  grouped_sound = groups_sound (firsts (map type_or31 us)) (types_have us types)

-- Grouping loses no unit and makes none.
module _ (us : List (List ℕ)) where
  pub grouped_few : length (grouped us) ≤ length us
  unfolding grouped
  grouped_few = omega (arith, length-map (firsts (map type_or31 us)) (group us), firsts_le (map type_or31 us), length-map us type_or31)

  every_group : (P : List ℕ → Type 0) → Every P us → (ts : List ℕ) → Every P (units_of (map (group us) ts))
  unfolding units_of
  every_group P e [] = tt
  every_group P e (t ∷ ts) = every_append P (having_type t us) (units_of (map (group us) ts)) (every_having t P us e) (every_group P e ts)

  -- what holds of every unit holds of every grouped unit
  pub every_grouped : (P : List ℕ → Type 0) → Every P us → Every P (units_of (grouped us))
  unfolding grouped
  every_grouped P e = every_group P e (firsts (map type_or31 us))

  pub grouped_count : length (units_of (grouped us)) ≡ length us
  grouped_count =
      let r = grouped_as us in
      ap length r.units ∙ length-map r.order (λ i. get_or us i []) ∙ r.count

-- The length of units of at most 255 bytes, each after a length of w bytes, and of their list.
pub units_long : (w : ℕ) (us : List (List ℕ)) → Every (λ u. length u ≤ 255) us → length (encode_units w us) ≤ (w + 255) * length us
unfolding encode_units
units_long w [] e = omega arith
units_long w (u ∷ us) e =
    let h = e.0 in
    omega (arith, length-append (to_chunk w u) (encode_units w us), length_to_chunk w u, units_long w us e.1, mul-suc (w + 255) (length us))

pub every_parts : (P : List ℕ → Type 0) (us vs : List (List ℕ)) → Every P (us ++ vs) → Every P us × Every P vs
every_parts P [] vs e = (tt, e)
every_parts P (u ∷ us) vs e = let r = every_parts P us vs e.1 in ((e.0, r.0), r.1)

arrays_long : (xs : List (Array (List ℕ))) → Every (λ u. length u ≤ 255) (units_of xs)
    → length (encode_arrays list_width xs) ≤ 6 * length xs + 259 * length (units_of xs)
unfolding encode_arrays encode_array units_of
arrays_long [] e = omega arith
arrays_long (a ∷ xs) e =
    let r = every_parts _ a.units (units_of xs) e in
    let rest = complete_byte a ∷ a.unit_type ∷ encode_units list_width a.units in
    omega (
      arith,
      length-append (to_chunk list_width rest) (encode_arrays list_width xs),
      length_to_chunk list_width rest,
      units_long list_width a.units r.0,
      arrays_long xs r.1,
      length-append a.units (units_of xs),
    )

pub grouped_long : (us : List (List ℕ)) → Every (λ u. length u ≤ 255) us → length (encode (grouped us)) ≤ 1 + 265 * length us
unfolding encode
grouped_long us short =
    omega (arith, arrays_long (grouped us) (every_grouped us (λ u. length u ≤ 255) short), grouped_few us, grouped_count us)
