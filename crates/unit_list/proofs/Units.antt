-- The units of a list: by its arrays, by the walk, and with their bytes.
use Prim.Native.Nat.{ℕ}
use mathlib.Core.Path.{◌≡◌, refl, ap, ◌∙◌}
use mathlib.Core.List.{List, [], ◌∷◌, ◌++◌, map, map-append}
use Rattle.parse.specs.Outcome.{Outcome, accept, refuse, and_then}
use Rattle.boxes.specs.Parts.{held}
use Rattle.boxes.specs.declared.Span.{Span}
use Rattle.unit_list.specs.UnitList.{Array, decode, units_of, held_arrays}
use Rattle.unit_list.specs.Answers.{list_units}
use Rattle.unit_list.specs.inner.Walk.{TypedUnit, typed, typed_units, typed_list, unit_spans, untyped}

-- the spans of one array's units, then those of the rest
spans_typed : (t : ℕ) (us : List Span) (rest : List TypedUnit) → unit_spans (typed t us ++ rest) ≡ us ++ unit_spans rest
unfolding typed unit_spans
spans_typed t [] rest = refl
spans_typed t (a ∷ us) rest = ap (λ (l : List Span). a ∷ l) (spans_typed t us rest)

spans_units : (xs : List (Array Span)) → unit_spans (typed_units xs) ≡ units_of xs
unfolding typed_units unit_spans units_of
spans_units [] = refl
spans_units (a ∷ xs) = spans_typed a.unit_type a.units (typed_units xs) ∙ ap (λ (l : List Span). a.units ++ l) (spans_units xs)

-- what holds of the typed units of all arrays holds of those of a list
pub lifted : (f : List TypedUnit → List Span) (g : List (Array Span) → List Span)
    → ((xs : List (Array Span)) → f (typed_units xs) ≡ g xs) → (o : Outcome (List (Array Span)))
    → and_then (and_then o (λ xs. accept (typed_units xs))) (λ xs. accept (f xs)) ≡ and_then o (λ xs. accept (g xs))
lifted f g h (accept xs) = ap accept (h xs)
lifted f g h (refuse e) = refl

pub list_spans : (s : List ℕ) → untyped (typed_list s) ≡ list_units s
list_spans s = lifted unit_spans units_of spans_units (decode s)

-- the bytes of the units are the units of the arrays with their bytes
pub units_held : (s : List ℕ) (xs : List (Array Span)) → map (held s) (units_of xs) ≡ units_of (held_arrays s xs)
unfolding units_of
units_held s [] = refl
units_held s (a ∷ xs) = map-append (held s) a.units (units_of xs) ∙ rw (units_held s xs)
