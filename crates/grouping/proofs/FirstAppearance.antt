-- Laws of the arrays by type: the array of a type, and the types in the order in which a walk meets them.
use Prim.Native.Nat.{ℕ, ◌+◌, ◌<◌}
use mathlib.Core.Path.{◌≡◌, refl, sym, ap, ◌∙◌}
use mathlib.Core.Bool.{Bool, true, false, ◌||◌}
use mathlib.Core.List.{List, [], ◌∷◌, ◌++◌, map}
use native.Mathlib.Omega.{arith}
use lib.Dec.{eqb}
use lib.ListN.{length, get_or, set, replicate, length-replicate, get_or-replicate, length-set}
use lib.Seq.{sets, get_or-set_same, get_or-set_other}
use borrow.Author.Tests.{eq-eqb, eqb-true}
use Rattle.std.specs.Prelude.{if◌then◌else◌}
use Rattle.boxes.specs.Bytes.{to_be}
use Rattle.boxes.proofs.ChunkBytes.{length_to_chunk}
use Rattle.nal.specs.Header.{type_or31}
use Rattle.nal.specs.inner.Kinds.{unit_types}
use Rattle.unit_list.specs.UnitList.{encode_units, encode_array, encode_arrays, list_width}
use Rattle.unit_list.proofs.Written as written
use Rattle.grouping.specs.Grouping.{having_type, without, firsts, group, grouped}

-- ### the array of a type

module _ (us : List (List ℕ)) (t : ℕ) where
  -- the bytes of its units
  abbrev pub group_bytes : List ℕ
  group_bytes = encode_units list_width (having_type t us)

  pub array_long : length (encode_array list_width (group us t)) ≡ 6 + length group_bytes
  unfolding encode_array
  array_long = length_to_chunk list_width (1 ∷ t ∷ group_bytes) ∙ omega arith

  -- the units are stored first, then the array's length, complete and type before them
  pub array_stored : (d e f : List ℕ) (at n : ℕ) → e ≡ sets d (at + 6) group_bytes → f ≡ sets e at (to_be list_width n ++ (1 ∷ t ∷ []))
      → n ≡ 2 + length group_bytes
      → f ≡ sets d at (encode_array list_width (group us t))
  unfolding encode_array
  array_stored d e f at n x y z = written.array_stored d e f at list_width n 1 t (at + 6) group_bytes (omega arith) z x y

-- ### types in the order of first occurrence

-- whether t is in met
unfoldable pub among : ℕ → List ℕ → Bool
among t [] = false
among t (d ∷ ds) = eqb t d || among t ds

-- the types that a walk meets for the first time when it has met `met` before
unfoldable pub new_types : List ℕ → List ℕ → List ℕ
new_types met [] = []
new_types met (t ∷ ts) = if among t met then new_types met ts else t ∷ new_types (t ∷ met) ts

without_twice : (t : ℕ) (xs : List ℕ) → without t (without t xs) ≡ without t xs
unfolding without
without_twice t [] = refl
without_twice t (x ∷ xs) = go (eqb x t) refl (without_twice t xs)
  where
    go : (b : Bool) → eqb x t ≡ b → without t (without t xs) ≡ without t xs
        → without t (if b then without t xs else x ∷ without t xs) ≡ (if b then without t xs else x ∷ without t xs)
    go true e h = h
    go false e h = rw e (ap (λ (l : List ℕ). x ∷ l) h)

without_other : (s t : ℕ) (xs : List ℕ) → without s (without t xs) ≡ without t (without s xs)
unfolding without
without_other s t [] = refl
without_other s t (x ∷ xs) = go (eqb x s) (eqb x t) refl refl (without_other s t xs)
  where
    go : (a b : Bool) → eqb x s ≡ a → eqb x t ≡ b → without s (without t xs) ≡ without t (without s xs)
        → without s (if b then without t xs else x ∷ without t xs) ≡ without t (if a then without s xs else x ∷ without s xs)
    go true true e f h = h
    go true false e f h = rw e h
    go false true e f h = rw f h
    go false false e f h = rw (e, f) (ap (λ (l : List ℕ). x ∷ l) h)

-- a list without any type in met
unfoldable unmet : List ℕ → List ℕ → List ℕ
unmet [] xs = xs
unmet (d ∷ ds) xs = without d (unmet ds xs)

unmet_nil : (met : List ℕ) → unmet met [] ≡ []
unfolding unmet without
unmet_nil [] = refl
unmet_nil (d ∷ ds) = ap (without d) (unmet_nil ds)

unmet_without : (met : List ℕ) (t : ℕ) (xs : List ℕ) → unmet met (without t xs) ≡ without t (unmet met xs)
unfolding unmet
unmet_without [] t xs = refl
unmet_without (d ∷ ds) t xs = ap (without d) (unmet_without ds t xs) ∙ without_other d t (unmet ds xs)

unmet_cons : (met : List ℕ) (t : ℕ) (xs : List ℕ) → unmet met (t ∷ xs) ≡ (if among t met then unmet met xs else t ∷ unmet met xs)
unfolding unmet among without
unmet_cons [] t xs = refl
unmet_cons (d ∷ ds) t xs = ap (without d) (unmet_cons ds t xs) ∙ go (eqb t d) (among t ds) refl
  where
    go : (a b : Bool) → eqb t d ≡ a
        → without d (if b then unmet ds xs else t ∷ unmet ds xs) ≡ (if a || b then without d (unmet ds xs) else t ∷ without d (unmet ds xs))
    go true true e = refl
    go true false e = rw e
    go false true e = refl
    go false false e = rw e

-- a type that was met is not in it
unmet_met : (met : List ℕ) (t : ℕ) (xs : List ℕ) → among t met ≡ true → without t (unmet met xs) ≡ unmet met xs
unfolding unmet among
unmet_met [] t xs h = absurd (let z : ◌≡◌ {A = ℕ} 0 1 = cc in omega arith)
unmet_met (d ∷ ds) t xs h = go (eqb t d) refl h (unmet_met ds t xs)
  where
    go : (a : Bool) → eqb t d ≡ a → (a || among t ds) ≡ true → (among t ds ≡ true → without t (unmet ds xs) ≡ unmet ds xs)
        → without t (without d (unmet ds xs)) ≡ without d (unmet ds xs)
    go true e g i = let k = eqb-true t d e in rw k (without_twice d (unmet ds xs))
    go false e g i = without_other t d (unmet ds xs) ∙ ap (without d) (i g)

new_unmet : (met ts : List ℕ) → new_types met ts ≡ unmet met (firsts ts)
unfolding new_types firsts unmet
new_unmet met [] = sym (unmet_nil met)
new_unmet met (t ∷ ts) = go (among t met) refl (new_unmet met ts) (new_unmet (t ∷ met) ts) ∙ sym (unmet_cons met t (without t (firsts ts)))
  where
    go : (b : Bool) → among t met ≡ b → new_types met ts ≡ unmet met (firsts ts) → new_types (t ∷ met) ts ≡ unmet (t ∷ met) (firsts ts)
        → (if b then new_types met ts else t ∷ new_types (t ∷ met) ts)
        ≡ (if b then unmet met (without t (firsts ts)) else t ∷ unmet met (without t (firsts ts)))
    go true e h i = h ∙ sym (unmet_met met t (firsts ts) e) ∙ sym (unmet_without met t (firsts ts))
    go false e h i = ap (λ (l : List ℕ). t ∷ l) (i ∙ sym (unmet_without met t (firsts ts)))

pub new_firsts : (ts : List ℕ) → new_types [] ts ≡ firsts ts
unfolding unmet
new_firsts ts = new_unmet [] ts

-- seen has a mark exactly for the types met
pub record Marks (seen : List Bool) (met : List ℕ) : Type 0 where
  pub long : length seen ≡ unit_types
  pub each : (k : ℕ) → k < unit_types → get_or seen k false ≡ among k met

pub marks_start : Marks (replicate unit_types false) []
unfolding among
marks_start = record { long = length-replicate unit_types false; each = λ k h. get_or-replicate unit_types k false false h }

pub marks_more : (seen : List Bool) (met : List ℕ) (t : ℕ) → Marks seen met → t < unit_types → Marks (set seen t true) (t ∷ met)
unfolding among
marks_more seen met t i h =
    record { long = length-set seen t true ∙ i.long; each = λ k g. go k g (eqb k t) refl }
  where
    go : (k : ℕ) → k < unit_types → (b : Bool) → eqb k t ≡ b → get_or (set seen t true) k false ≡ (b || among k met)
    go k g true e =
        let z = eqb-true k t e in
        rw z (get_or-set_same seen t true false (omega (arith, i.long)))
    go k g false e = get_or-set_other seen t k true false (λ z. never k e z) ∙ i.each k g
      where
        never : (k : ℕ) → eqb k t ≡ false → k ≡ t → ⊥
        never k e z = let f = eq-eqb k t z in let y : ◌≡◌ {A = ℕ} 0 1 = cc in omega arith

-- ### the arrays

-- the bytes of the arrays whose types are first met from `here` on
abbrev pub arrays_left : List (List ℕ) → List ℕ → List (List ℕ) → List ℕ
arrays_left us met left = encode_arrays list_width (map (group us) (new_types met (map type_or31 left)))

pub arrays_all : (us : List (List ℕ)) → arrays_left us [] us ≡ encode_arrays list_width (grouped us)
unfolding grouped
arrays_all us = ap (λ (ts : List ℕ). encode_arrays list_width (map (group us) ts)) (new_firsts (map type_or31 us))

pub arrays_none : (us : List (List ℕ)) (met : List ℕ) (left : List (List ℕ)) → left ≡ [] → arrays_left us met left ≡ []
unfolding new_types encode_arrays
arrays_none us met left e = rw e

module _ (us : List (List ℕ)) (met : List ℕ) (u : List ℕ) (left : List (List ℕ)) where
  pub arrays_met : among (type_or31 u) met ≡ true → arrays_left us met (u ∷ left) ≡ arrays_left us met left
  unfolding new_types
  arrays_met h = rw h

  pub arrays_new : among (type_or31 u) met ≡ false
      → arrays_left us met (u ∷ left) ≡ encode_array list_width (group us (type_or31 u)) ++ arrays_left us (type_or31 u ∷ met) left
  unfolding new_types encode_arrays
  arrays_new h = rw h
