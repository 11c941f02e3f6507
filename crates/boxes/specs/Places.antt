-- Unit k (SCOPE 1): where it lies in a list, an item, a stream or an access unit, that there is none, or the refusal.
use Rattle.std.specs.Prelude.{ℕ, zero, suc, ◌+◌, ◌≤◌, List, [], ◌∷◌, length, Option, None, Some, Result, Ok, Err}
use Rattle.error.specs.declared.Refusal.{Refusal}
use Rattle.parse.specs.Outcome.{Outcome, accept, refuse}
use Rattle.boxes.specs.declared.Span.{Span}

-- element k, counted from 0, if there is one
unfoldable pub nth : {A : Type 0} → List A → ℕ → Option A
nth [] k = None
nth (x ∷ xs) zero = Some x
nth (x ∷ xs) (suc k) = nth xs k

-- unit k of those found; none past the last
abbrev pub nth_found : {A : Type 0} → Outcome (List A) → ℕ → Outcome (Option A)
nth_found (accept xs) k = accept (nth xs k)
nth_found (refuse e) k = refuse e

-- a unit lies inside the slice that the call was lent
abbrev pub PlaceFits : List ℕ → Result (Option Span) Refusal → Type 0
PlaceFits s (Ok (Some a)) = a.start + a.len ≤ length s
PlaceFits s (Ok None) = Unit {0}
PlaceFits s (Err e) = Unit {0}
