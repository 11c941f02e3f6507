-- Internal: a walk over the units of a list, each with its array's type.
use mathlib.Core.Path.{ap}
use mathlib.Core.Logic.{inl, inr}
use native.Mathlib.Nat.{ℕ_set}
use native.Mathlib.Omega.{arith}
use Rattle.std.specs.Prelude.{ℕ, ◌+◌, ◌^◌, ◌≤◌, ◌≡◌, List, [], ◌∷◌, ◌++◌, ◌⊎◌, length, take, Option, Some, None, Result, Ok, Err}
use Rattle.error.specs.Refusals.{number_of}
use Rattle.error.specs.declared.Refusal.{Refusal}
use Rattle.parse.specs.Outcome.{Outcome, accept, refuse, and_then}
use Rattle.parse.specs.Parse.{many, outcome_or}
use Rattle.parse.specs.inner.Walk.{more}
use Rattle.boxes.specs.Bytes.{chunk}
use Rattle.boxes.specs.declared.Span.{Span}
use Rattle.unit_list.specs.UnitList.{Array, array, array_with, largest_type, decode}
use Rattle.unit_list.specs.declared.ListCursor.{ListCursor}

-- where a unit lies, and the type of its array
pub record TypedUnit : Type 0 where
  pub unit : Span
  pub unit_type : ℕ

-- units with the type of their array
unfoldable pub typed : ℕ → List Span → List TypedUnit
typed t [] = []
typed t (a ∷ us) = record { unit = a; unit_type = t } ∷ typed t us

unfoldable pub typed_units : List (Array Span) → List TypedUnit
typed_units [] = []
typed_units (a ∷ xs) = typed a.unit_type a.units ++ typed_units xs

-- the units of a list with their types: 23, 21
abbrev pub typed_list : List ℕ → Outcome (List TypedUnit)
typed_list s = and_then (decode s) (λ xs. accept (typed_units xs))

-- the units after a cursor: what is left of its array, and the arrays after that; 21 where they do not read
unfoldable pub typed_units_from : List ℕ → ListCursor → Outcome (List TypedUnit)
typed_units_from s c =
    and_then (outcome_or 21 (many (chunk c.width) (take c.end s) c.at)) (λ us.
    and_then (outcome_or 21 (many (array c.width) s c.end)) (λ xs.
    accept (typed c.unit_type us ++ typed_units xs)))

-- where typed units lie
unfoldable pub unit_spans : List TypedUnit → List Span
unit_spans [] = []
unit_spans (x ∷ xs) = x.unit ∷ unit_spans xs

abbrev pub untyped : Outcome (List TypedUnit) → Outcome (List Span)
untyped o = and_then o (λ xs. accept (unit_spans xs))

-- the units after a cursor, without their types: 21
abbrev pub units_left : List ℕ → ListCursor → Outcome (List Span)
units_left s c = untyped (typed_units_from s c)

-- the units after a cursor up to the end of its array: 21
abbrev pub array_units_from : List ℕ → ListCursor → Outcome (List Span)
array_units_from s c = outcome_or 21 (many (chunk c.width) (take c.end s) c.at)

-- the arrays after a cursor's end: 21
abbrev pub arrays_from : List ℕ → ListCursor → Outcome (List (Array Span))
arrays_from s c = outcome_or 21 (many (array c.width) s c.end)

-- the cursor after the version, before the first array, where lengths have w bytes
abbrev pub front : ℕ → ListCursor
front w = record { at = 1; end = 1; unit_type = 0; width = w }

-- a cursor is inside its list, which has at most 2^30 bytes; its lengths have a width of W
pub record FitsFor (W : ℕ → Type 0) (s : List ℕ) (c : ListCursor) : Type 0 where
  pub before : c.at ≤ c.end
  pub within : c.end ≤ length s
  pub lent : length s ≤ 2 ^ 30
  pub width : W c.width

-- a length has two or four bytes, as in the two versions of a list
abbrev pub TwoOrFour : ℕ → Type 0
TwoOrFour w = (w ≡ 2) ⊎ (w ≡ 4)

-- the two exclude each other, so the fact has one proof at most, and a struct may keep it
pub two_or_four-prop : (w : ℕ) → IsProp (TwoOrFour w)
two_or_four-prop w (inl p) (inl q) = ap inl (ℕ_set w 2 p q)
two_or_four-prop w (inr p) (inr q) = ap inr (ℕ_set w 4 p q)
two_or_four-prop w (inl p) (inr q) = absurd (omega arith)
two_or_four-prop w (inr p) (inl q) = absurd (omega arith)

-- a cursor of a list. What a step says of a cursor holds for every width from 1 on (proofs/Steps.antt); two or four is what the functions that
-- read a length ask for (`unit_list::length`), which are written for these two so that the compiler puts the step into every loop over units.
abbrev pub Fits : List ℕ → ListCursor → Type 0
Fits s c = FitsFor TwoOrFour s c

-- what the start of a walk says of a list's units
abbrev pub started : List ℕ → Result ListCursor Refusal → Outcome (List TypedUnit)
started s (Ok c) = typed_units_from s c
started s (Err e) = refuse (number_of e)

-- and of its arrays
abbrev pub arrays_started : List ℕ → Result ListCursor Refusal → Outcome (List (Array Span))
arrays_started s (Ok c) = arrays_from s c
arrays_started s (Err e) = refuse (number_of e)

abbrev pub StartFits : List ℕ → Result ListCursor Refusal → Type 0
StartFits s (Ok c) = Fits s c
StartFits s (Err e) = Unit {0}

-- what a step says of the units after the cursor that it started from
abbrev pub stepped : List ℕ → Result (Option (Span × ListCursor)) Refusal → Outcome (List TypedUnit)
stepped s (Ok (Some (a, c))) = more (record { unit = a; unit_type = c.unit_type }) (typed_units_from s c)
stepped s (Ok None) = accept []
stepped s (Err e) = refuse (number_of e)

-- a step from c to d over the unit at a: its length, of n bytes or more, comes before it, and the walk goes on after it with the same width
pub record Passed (W : ℕ → Type 0) (n : ℕ) (s : List ℕ) (c : ListCursor) (a : Span) (d : ListCursor) : Type 0 where
  pub start : c.at + n ≤ a.start
  pub next : a.start + a.len ≡ d.at
  pub same : d.width ≡ c.width
  pub fits : FitsFor W s d

abbrev pub StepFits : List ℕ → ListCursor → Result (Option (Span × ListCursor)) Refusal → Type 0
StepFits s c (Ok (Some (a, d))) = Passed TwoOrFour c.width s c a d
StepFits s c (Ok None) = Unit {0}
StepFits s c (Err e) = Unit {0}

-- what a step inside one array says of its units after the cursor
abbrev pub units_stepped : List ℕ → Result (Option (Span × ListCursor)) Refusal → Outcome (List Span)
units_stepped s (Ok (Some (a, c))) = more a (array_units_from s c)
units_stepped s (Ok None) = accept []
units_stepped s (Err e) = refuse (number_of e)

-- such a step stays in its array, and ends where the array does
abbrev pub UnitStepFits : List ℕ → ListCursor → Result (Option (Span × ListCursor)) Refusal → Type 0
UnitStepFits s c (Ok (Some (a, d))) = Passed TwoOrFour c.width s c a d × (d.end ≡ c.end) × (d.unit_type ≡ c.unit_type)
UnitStepFits s c (Ok None) = c.at ≡ c.end
UnitStepFits s c (Err e) = Unit {0}

-- what a step over whole arrays says of the arrays after a cursor's end: the units of this one, and the arrays after it
abbrev pub arrays_stepped : List ℕ → Result (Option (ℕ × ListCursor)) Refusal → Outcome (List (Array Span))
arrays_stepped s (Ok (Some (b, c))) = and_then (array_units_from s c) (λ us. more (array_with b c.unit_type us) (arrays_from s c))
arrays_stepped s (Ok None) = accept []
arrays_stepped s (Err e) = refuse (number_of e)

-- an array's units follow its length, complete byte and type; complete byte and type are in range; the width is the same
pub record Entered (W : ℕ → Type 0) (s : List ℕ) (c : ListCursor) (b : ℕ) (d : ListCursor) : Type 0 where
  pub first : d.at ≡ c.end + d.width + 2
  pub same : d.width ≡ c.width
  pub complete : b ≤ 3
  pub unit_type : d.unit_type ≤ largest_type
  pub fits : FitsFor W s d

abbrev pub ArrayStepFits : List ℕ → ListCursor → Result (Option (ℕ × ListCursor)) Refusal → Type 0
ArrayStepFits s c (Ok (Some (b, d))) = Entered TwoOrFour s c b d
ArrayStepFits s c (Ok None) = c.end ≡ length s
ArrayStepFits s c (Err e) = Unit {0}
