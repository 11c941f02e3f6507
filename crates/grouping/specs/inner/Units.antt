-- Internal: the units of a list after a cursor, all of which read, and a step over one of them.
use Rattle.std.specs.Prelude.{ℕ, ◌+◌, ◌≤◌, ◌≡◌, List, [], ◌∷◌, map, length, Option, None, Some}
use Rattle.std.specs.Borrow.{Bor}
use Rattle.parse.specs.Outcome.{Outcome, accept, refuse, and_then}
use Rattle.boxes.specs.Parts.{held, PartOf}
use Rattle.boxes.specs.declared.Span.{Span}
use Rattle.unit_list.specs.inner.Walk.{Fits, units_left}
use Rattle.unit_list.specs.declared.ListCursor.{ListCursor}

-- the units found; none on a refusal
abbrev pub spans_of : Outcome (List Span) → List Span
spans_of (accept us) = us
spans_of (refuse e) = []

-- the bytes of the units after a cursor
unfoldable pub units_at : List ℕ → ListCursor → List (List ℕ)
units_at s c = map (held s) (spans_of (units_left s c))

-- all units after the cursor c of s read
pub record Readable (s : List ℕ) (c : ListCursor) : Type 0 where
  pub fits : Fits s c
  pub left : units_left s c ≡ accept (spans_of (units_left s c))

-- a walk at place p with the units `left` to come finds u and continues at place q with `rest`; at least two bytes lie between p and u
pub record Turn (left : List (List ℕ)) (p : ℕ) (u : List ℕ) (rest : List (List ℕ)) (q : ℕ) : Type 0 where
  pub units : left ≡ u ∷ rest
  pub ahead : p + 2 + length u ≤ q

-- the bytes of a unit that was found
abbrev pub found_unit : Option (Bor (List ℕ)) → Option (List ℕ)
found_unit (Some a) = Some a.now
found_unit None = None

-- where a unit was found, it is a part of the list
abbrev pub FoundPart : Bor (List ℕ) → Option (Bor (List ℕ)) → Type 0
FoundPart list (Some r) = (a : Span) × PartOf r list a × (a.start + a.len ≤ length list.now)
FoundPart list None = Unit {0}

-- the bytes of the units at spans that were found
abbrev pub held_units : List ℕ → Outcome (List Span) → Outcome (List (List ℕ))
held_units s o = and_then o (λ us. accept (map (held s) us))
