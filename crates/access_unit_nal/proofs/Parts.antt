-- The part that is returned for unit k: of the list or of the item, where the unit lies.
use Prim.Native.Nat.{ℕ, zero, suc}
use mathlib.Core.Path.{◌≡◌, refl, sym, ap, ◌∙◌, subst}
use mathlib.Core.List.{List, [], ◌∷◌}
use lib.ListN.{get_or}
use denote.Ref.{Bor}
use Rattle.std.specs.Prelude.{Option, Some, None, Result, Ok, Err}
use Rattle.error.specs.declared.Refusal.{Refusal}
use Rattle.parse.specs.Answers.{answer_of}
use Rattle.parse.specs.Outcome.{Outcome, accept, refuse}
use Rattle.boxes.specs.Parts.{PartOf, nowhere}
use Rattle.boxes.specs.Places.{nth, nth_found}
use Rattle.access_unit.specs.declared.Source.{Source}
use Rattle.access_unit.specs.declared.Source.TheVariants.{OfList, OfItem}
use Rattle.access_unit.specs.Answers.{source_at, PartOfEither}

-- where the part lies; where there is no unit, it is the list's empty part
abbrev pub source_of : Outcome (Option Source) → Source
source_of (accept (Some x)) = x
source_of (accept None) = OfList nowhere
source_of (refuse e) = OfList nowhere

nth_source : (us : List Source) (k : ℕ) → source_of (accept (nth us k)) ≡ get_or us k (OfList nowhere)
unfolding nth
nth_source [] k = refl
nth_source (x ∷ us) zero = refl
nth_source (x ∷ us) (suc k) = nth_source us k

source_found : (o : Outcome (List Source)) (k : ℕ) → source_of (nth_found o k) ≡ source_at o k
source_found (accept us) k = nth_source us k
source_found (refuse e) k = refl

module _ (r list item : Bor (List ℕ)) (o : Outcome (List Source)) (k : ℕ) where
  given : (u : Result (Option Source) Refusal) → answer_of u ≡ nth_found o k → PartOfEither r list item (source_of (answer_of u))
      → PartOfEither r list item (source_at o k)
  given u said h = subst (PartOfEither r list item) (ap source_of said ∙ source_found o k) h

  pub part_found : (u : Result (Option Source) Refusal) → answer_of u ≡ nth_found o k → (x : Source) → u ≡ Ok (Some x)
      → PartOfEither r list item x → PartOfEither r list item (source_at o k)
  part_found u said x e h = given u said (subst (PartOfEither r list item) (ap (λ (v : Result (Option Source) Refusal). source_of (answer_of v)) (sym e)) h)

  pub part_missing : (u : Result (Option Source) Refusal) → answer_of u ≡ nth_found o k → ((x : Source) → u ≡ Ok (Some x) → ⊥)
      → PartOf r list nowhere → PartOfEither r list item (source_at o k)
  part_missing (Ok (Some x)) said n h = absurd (n x refl)
  part_missing (Ok None) said n h = given (Ok None) said h
  part_missing (Err e) said n h = given (Err e) said h
