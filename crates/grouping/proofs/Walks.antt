-- Laws of a walk over the units of a list that reads: a step to the next unit, and the end.
use Prim.Native.Nat.{ℕ, ◌≤◌, ◌+◌}
use mathlib.Core.Path.{◌≡◌, refl, sym, ap, ◌∙◌}
use mathlib.Core.List.{List, [], ◌∷◌, map}
use native.Mathlib.Omega.{arith}
use lib.ListN.{length}
use Rattle.std.specs.Prelude.{Option, Some, Result, Ok}
use Rattle.error.specs.declared.Refusal.{Refusal}
use Rattle.parse.specs.Outcome.{Outcome, accept, refuse}
use Rattle.parse.specs.inner.Walk.{more}
use Rattle.boxes.specs.Parts.{held}
use Rattle.boxes.specs.declared.Span.{Span}
use Rattle.boxes.proofs.Spans.{held_long}
use Rattle.unit_list.specs.inner.Walk.{typed_units_from, unit_spans, stepped, StepFits, units_left}
use Rattle.unit_list.specs.declared.ListCursor.{ListCursor}
use Rattle.unit_list.proofs.Turns.{ListTurn, list_found}
use Rattle.grouping.specs.inner.Units.{spans_of, units_at, Readable, Turn}

-- a step that found no unit: none is left
pub none_left : (s : List ℕ) (here : ListCursor) → typed_units_from s here ≡ accept [] → units_at s here ≡ []
unfolding units_at unit_spans
none_left s here e = rw e

module _ (s : List ℕ) (here : ListCursor) (r : Result (Option (Span × ListCursor)) Refusal) (f : (stepped s r ≡ typed_units_from s here) × StepFits s here r) (i : Readable s here) where
  module _ (a : Span) (next : ListCursor) (e : r ≡ Ok (Some (a, next))) where
    turn : ListTurn s here a next
    turn = list_found s here r f a next e

    reads : (o : Outcome (List Span)) → units_left s next ≡ o → Readable s next × (units_at s here ≡ held s a ∷ units_at s next)
    unfolding units_at
    reads (refuse n) g = let h = i.left in let k = turn.rest in let z : ◌≡◌ {A = ℕ} 0 1 = cc in absurd (omega arith)
    reads (accept us) g = (
      record { fits = turn.passed.fits; left = g ∙ ap (λ (o : Outcome (List Span)). accept (spans_of o)) (sym g) },
      ap (λ (o : Outcome (List Span)). map (held s) (spans_of o)) (turn.rest ∙ ap (more a) g)
          ∙ ap (λ (o : Outcome (List Span)). held s a ∷ map (held s) (spans_of o)) (sym g),
    )

    -- what is left after the unit found reads
    pub reads_on : Readable s next
    reads_on = (reads (units_left s next) refl).0

    pub found_turn : Turn (units_at s here) here.at (held s a) (units_at s next) next.at
    found_turn = record { units = (reads (units_left s next) refl).1; ahead = omega (arith, held_long s a turn.inside, turn.ahead) }

    pub found_long : length (held s a) ≡ a.len
    found_long = held_long s a turn.inside

    pub found_inside : a.start + a.len ≤ length s
    found_inside = turn.inside
