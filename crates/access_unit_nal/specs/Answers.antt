-- The place of a unit of the access unit (SCOPE 3.12).
use Rattle.std.specs.Prelude.{ℕ, ◌+◌, ◌≤◌, List, length, Option, Some, None, Result, Ok, Err}
use Rattle.error.specs.declared.Refusal.{Refusal}
use Rattle.access_unit.specs.declared.Source.{Source}
use Rattle.access_unit.specs.declared.Source.TheVariants.{OfList, OfItem}

-- a unit lies inside the list s or the item t
abbrev pub SourceFits : List ℕ → List ℕ → Result (Option Source) Refusal → Type 0
SourceFits s t (Ok (Some (OfList a))) = a.start + a.len ≤ length s
SourceFits s t (Ok (Some (OfItem a))) = a.start + a.len ≤ length t
SourceFits s t (Ok None) = Unit {0}
SourceFits s t (Err e) = Unit {0}
