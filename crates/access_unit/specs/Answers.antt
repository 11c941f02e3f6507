-- What the calls for an access unit return: unit k and its part (SCOPE 3.12).
use Rattle.access_unit.specs.declared.Source.{Source}
use Rattle.access_unit.specs.declared.Source.TheVariants.{OfList, OfItem}
use Rattle.std.specs.Prelude.{ℕ, List, get_or}
use Rattle.std.specs.Borrow.{Bor}
use Rattle.parse.specs.Outcome.{Outcome, accept, refuse}
use Rattle.boxes.specs.Parts.{PartOf, nowhere}

-- unit k of an access unit; the empty part of the list past the last unit and on a refusal
abbrev pub source_at : Outcome (List Source) → ℕ → Source
source_at (accept us) k = get_or us k (OfList nowhere)
source_at (refuse e) k = OfList nowhere

-- r is the part of the list or of the item where the unit lies
abbrev pub PartOfEither : Bor (List ℕ) → Bor (List ℕ) → Bor (List ℕ) → Source → Type 0
PartOfEither r list item (OfList a) = PartOf r list a
PartOfEither r list item (OfItem a) = PartOf r item a
