-- Internal: the walk over the kept units of an item, and which unit has number k.
use Rattle.std.specs.Prelude.{ℕ, ◌-◌, ◌≤◌, ◌<◌, ◌≡◌, ◌⊎◌, List, [], length, Option, Some, None, Result, Ok, Err}
use Rattle.error.specs.Refusals.{number_of}
use Rattle.error.specs.declared.Refusal.{Refusal}
use Rattle.parse.specs.Outcome.{Outcome, accept, refuse}
use Rattle.parse.specs.inner.Walk.{more}
use Rattle.boxes.specs.declared.Span.{Span}
use Rattle.split.specs.declared.NextUnit.{NextUnit}
use Rattle.access_unit.specs.inner.Gathered.{kept_left}
use Rattle.access_unit_sizes.specs.declared.sizes.Sizes.{Sizes}
use Rattle.access_unit_nal.specs.declared.source.UnitNumber.{UnitNumber}
use Rattle.access_unit_nal.specs.declared.source.UnitNumber.TheVariants as K

-- the kept units from a place on, by a step to the first of them
abbrev pub kept_stepped : ℕ → Option ℕ → List ℕ → Result (Option NextUnit) Refusal → Outcome (List Span)
kept_stepped size target item (Ok (Some m)) = more m.unit (kept_left size target item m.next)
kept_stepped size target item (Ok None) = accept []
kept_stepped size target item (Err e) = refuse (number_of e)

-- kept unit j of the item is unit k of the access unit: a leading one, or one after the list's units
abbrev pub KeptNumber : Sizes → ℕ → ℕ → Type 0
KeptNumber v k j = ((k < v.lead) × (j ≡ k)) ⊎ ((v.lead ≤ k) × (v.listed ≤ k - v.lead) × (j ≡ k - v.listed) × (j < v.kept))

-- which unit is unit k of the access unit
abbrev pub Numbered : Sizes → ℕ → Option UnitNumber → Type 0
Numbered v k (Some (K.Kept j)) = KeptNumber v k j
Numbered v k (Some (K.Listed j)) = (v.lead ≤ k) × (j ≡ k - v.lead) × (j < v.listed)
Numbered v k None = (v.lead ≤ k) × (v.listed ≤ k - v.lead) × (v.kept ≤ k - v.listed)

-- the item has a kept unit k
pub record HasKept (size : ℕ) (target : Option ℕ) (item : List ℕ) (k : ℕ) : Type 0 where
  pub units : List Span
  pub found : kept_left size target item 0 ≡ accept units
  pub within : k < length units
