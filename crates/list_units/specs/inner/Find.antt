-- Internal: what a walk over the wanted units of a list counts and finds.
use Rattle.std.specs.Prelude.{ℕ, ◌+◌, ◌≡◌, Bool, true, List, [], ◌∷◌, eqb, length, if◌then◌else◌, Some, Result, Ok, Err}
use Rattle.error.specs.Refusals.{number_of}
use Rattle.error.specs.declared.Refusal.{Refusal}
use Rattle.parse.specs.Outcome.{Outcome, accept, refuse, and_then}
use Rattle.boxes.specs.Places.{nth, PlaceFits}
use Rattle.boxes.specs.declared.Span.{Span}
use Rattle.unit_list.specs.inner.Walk.{TypedUnit, typed_list}
use Rattle.list_units.specs.declared.Wanted.{Wanted}
use Rattle.list_units.specs.declared.Wanted.TheVariants.{Every, OfType}
use Rattle.list_units.specs.declared.find.Seen.{Seen}

-- whether a unit in an array of type t is wanted
abbrev pub wants : Wanted → ℕ → Bool
wants Every t = true
wants (OfType x) t = eqb t x

-- those of the typed units that are wanted
unfoldable pub wanted_units : Wanted → List TypedUnit → List Span
wanted_units w [] = []
wanted_units w (x ∷ xs) = if wants w x.unit_type then x.unit ∷ wanted_units w xs else wanted_units w xs

abbrev pub wanted_of : Wanted → Outcome (List TypedUnit) → Outcome (List Span)
wanted_of w o = and_then o (λ xs. accept (wanted_units w xs))

-- the wanted units of a list: 23, 21
abbrev pub wanted_list : Wanted → List ℕ → Outcome (List Span)
wanted_list w s = wanted_of w (typed_list s)

-- v has how many units are found in s and where number k lies, if there is one, which is inside s
pub record Found (s : List ℕ) (us : List Span) (k : ℕ) (v : Seen) : Type 0 where
  pub count : v.count ≡ length us
  pub unit : v.unit ≡ nth us k
  pub inside : PlaceFits s (Ok v.unit)

-- what a walk answers whose units are those of o
abbrev pub Finds : List ℕ → Outcome (List Span) → ℕ → Result Seen Refusal → Type 0
Finds s o k (Ok v) = (us : List Span) × (accept us ≡ o) × Found s us k v
Finds s o k (Err e) = refuse (number_of e) ≡ o

-- one more unit counted, if it is wanted; number k is kept
abbrev pub seeing : Wanted → ℕ → ℕ → Span → Seen → Seen
seeing w k t a v =
    if wants w t then record { count = v.count + 1; unit = if eqb v.count k then Some a else v.unit } else v
