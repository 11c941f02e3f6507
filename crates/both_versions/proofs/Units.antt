-- The units of two lists with the same arrays: as many, with the same bytes, and so is what is made of them.
use Prim.Native.Nat.{ℕ, zero, suc}
use mathlib.Core.Path.{◌≡◌, refl, sym, ap, ◌∙◌}
use mathlib.Core.List.{List, [], ◌∷◌, map}
use lib.ListN.{length, get_or}
use native.Mathlib.Omega.{arith}
use Rattle.parse.specs.Outcome.{Outcome, accept, refuse, and_then}
use Rattle.boxes.specs.Parts.{held, nowhere}
use Rattle.boxes.specs.Walk.{count_found, found}
use Rattle.boxes.specs.declared.Span.{Span}
use Rattle.unit_list.specs.UnitList.{Array, decode, held_arrays, contents}

-- as many units with their bytes
pub length_held : (s : List ℕ) (us : List Span) → length (map (held s) us) ≡ length us
length_held s [] = refl
length_held s (a ∷ us) = let e = length_held s us in omega arith

-- unit k of them; past the last it is empty
held_at : (s : List ℕ) (us : List Span) (k : ℕ) → held s (get_or us k nowhere) ≡ get_or (map (held s) us) k []
held_at s [] k = refl
held_at s (a ∷ us) zero = refl
held_at s (a ∷ us) (suc k) = held_at s us k

-- units that a list has by its arrays (pick), and that its arrays have with their bytes (pick_held)
module _ (pick : List (Array Span) → List Span) (pick_held : List (Array (List ℕ)) → List (List ℕ))
    (same : (s : List ℕ) (xs : List (Array Span)) → map (held s) (pick xs) ≡ pick_held (held_arrays s xs)) where
  abbrev units : List ℕ → Outcome (List Span)
  units s = and_then (decode s) (λ xs. accept (pick xs))

  abbrev bytes : List ℕ → Outcome (List (List ℕ))
  bytes s = and_then (contents s) (λ xs. accept (pick_held xs))

  module _ {B : Type 0} (f : List (List ℕ) → Outcome B) where
    made : (s : List ℕ) → and_then (units s) (λ us. f (map (held s) us)) ≡ and_then (bytes s) f
    made s = go (decode s)
      where
        go : (o : Outcome (List (Array Span)))
            → and_then (and_then o (λ xs. accept (pick xs))) (λ us. f (map (held s) us))
            ≡ and_then (and_then (and_then o (λ xs. accept (held_arrays s xs))) (λ xs. accept (pick_held xs))) f
        go (accept xs) = ap f (same s xs)
        go (refuse n) = refl

  counted : (s : List ℕ) → count_found (units s) ≡ count_found (bytes s)
  counted s = go (decode s)
    where
      go : (o : Outcome (List (Array Span)))
          → count_found (and_then o (λ xs. accept (pick xs)))
          ≡ count_found (and_then (and_then o (λ xs. accept (held_arrays s xs))) (λ xs. accept (pick_held xs)))
      go (accept xs) = ap accept (sym (length_held s (pick xs)) ∙ ap length (same s xs))
      go (refuse n) = refl

  abbrev unit_in : Outcome (List (List ℕ)) → ℕ → List ℕ
  unit_in (accept us) k = get_or us k []
  unit_in (refuse n) k = []

  at : (s : List ℕ) (k : ℕ) → held s (found (units s) k) ≡ unit_in (bytes s) k
  at s k = go (decode s)
    where
      go : (o : Outcome (List (Array Span)))
          → held s (found (and_then o (λ xs. accept (pick xs))) k)
          ≡ unit_in (and_then (and_then o (λ xs. accept (held_arrays s xs))) (λ xs. accept (pick_held xs))) k
      go (accept xs) = held_at s (pick xs) k ∙ ap (λ (us : List (List ℕ)). get_or us k []) (same s xs)
      go (refuse n) = refl

  -- two lists with the same arrays
  module _ (s t : List ℕ) (e : contents t ≡ contents s) where
    bytes_same : bytes t ≡ bytes s
    bytes_same = ap (λ (o : Outcome (List (Array (List ℕ)))). and_then o (λ xs. accept (pick_held xs))) e

    pub same_made : {B : Type 0} (f : List (List ℕ) → Outcome B)
        → and_then (units t) (λ us. f (map (held t) us)) ≡ and_then (units s) (λ us. f (map (held s) us))
    same_made f = made f t ∙ ap (λ (o : Outcome (List (List ℕ))). and_then o f) bytes_same ∙ sym (made f s)

    pub same_count : count_found (units t) ≡ count_found (units s)
    same_count = counted t ∙ ap count_found bytes_same ∙ sym (counted s)

    pub same_unit : (k : ℕ) → held t (found (units t) k) ≡ held s (found (units s) k)
    same_unit k = at t k ∙ ap (λ (o : Outcome (List (List ℕ))). unit_in o k) bytes_same ∙ sym (at s k)
