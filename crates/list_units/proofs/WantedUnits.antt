-- The wanted units of a list: all of them and those of a type, by their arrays and by the walk.
use Prim.Native.Nat.{ℕ}
use mathlib.Core.Path.{◌≡◌, refl, ap, ◌∙◌}
use mathlib.Core.Bool.{Bool, true, false}
use mathlib.Core.List.{List, [], ◌∷◌, ◌++◌}
use Rattle.std.specs.Prelude.{if◌then◌else◌}
use Rattle.parse.specs.Outcome.{Outcome, accept, refuse}
use Rattle.parse.specs.inner.Walk.{more}
use Rattle.boxes.specs.declared.Span.{Span}
use Rattle.unit_list.specs.UnitList.{Array, decode, units_of_type}
use Rattle.unit_list.specs.Answers.{list_units, list_units_of_type}
use Rattle.unit_list.specs.inner.Walk.{TypedUnit, typed, typed_units, typed_list, unit_spans, untyped}
use Rattle.unit_list.proofs.Units.{lifted, list_spans}
use Rattle.list_units.specs.inner.Find.{wants, wanted_units, wanted_of, wanted_list}
use Rattle.list_units.specs.declared.Wanted.{Wanted}
use Rattle.list_units.specs.declared.Wanted.TheVariants.{Every, OfType}

-- the first unit is wanted, or it is not
module _ (w : Wanted) (x : TypedUnit) where
  pub wanted_more : wants w x.unit_type ≡ true → (o : Outcome (List TypedUnit)) → wanted_of w (more x o) ≡ more x.unit (wanted_of w o)
  unfolding wanted_units
  wanted_more h (accept xs) = rw h
  wanted_more h (refuse e) = refl

  pub wanted_less : wants w x.unit_type ≡ false → (o : Outcome (List TypedUnit)) → wanted_of w (more x o) ≡ wanted_of w o
  unfolding wanted_units
  wanted_less h (accept xs) = rw h
  wanted_less h (refuse e) = refl

-- no units, and a refusal
pub wanted_none : (w : Wanted) (o : Outcome (List TypedUnit)) → o ≡ accept [] → wanted_of w o ≡ accept []
unfolding wanted_units
wanted_none w o e = ap (wanted_of w) e

-- all units
every_spans : (xs : List TypedUnit) → wanted_units Every xs ≡ unit_spans xs
unfolding wanted_units unit_spans
every_spans [] = refl
every_spans (x ∷ xs) = ap (λ (l : List Span). x.unit ∷ l) (every_spans xs)

pub wanted_every : (o : Outcome (List TypedUnit)) → wanted_of Every o ≡ untyped o
wanted_every (accept xs) = ap accept (every_spans xs)
wanted_every (refuse e) = refl

pub list_every : (s : List ℕ) → wanted_list Every s ≡ list_units s
list_every s = wanted_every (typed_list s) ∙ list_spans s

-- those of a type: one array's units are wanted, or they are not
wanted_typed : (w : Wanted) (t : ℕ) (us : List Span) (rest : List TypedUnit)
    → wanted_units w (typed t us ++ rest) ≡ (if wants w t then us ++ wanted_units w rest else wanted_units w rest)
unfolding typed wanted_units
wanted_typed w t us rest = go (wants w t) refl us
  where
    go : (b : Bool) → wants w t ≡ b
        → (us : List Span) → wanted_units w (typed t us ++ rest) ≡ (if b then us ++ wanted_units w rest else wanted_units w rest)
    go true h [] = refl
    go false h [] = refl
    go true h (a ∷ us) = rw h (ap (λ (l : List Span). a ∷ l) (go true h us))
    go false h (a ∷ us) = rw h (go false h us)

wanted_type : (t : ℕ) (xs : List (Array Span)) → wanted_units (OfType t) (typed_units xs) ≡ units_of_type t xs
unfolding typed_units wanted_units units_of_type
wanted_type t [] = refl
wanted_type t (a ∷ xs) = wanted_typed (OfType t) a.unit_type a.units (typed_units xs) ∙ rw (wanted_type t xs)

pub list_type : (t : ℕ) (s : List ℕ) → wanted_list (OfType t) s ≡ list_units_of_type t s
list_type t s = lifted (wanted_units (OfType t)) (units_of_type t) (wanted_type t) (decode s)
