-- Laws of the walk that counts the wanted units and finds number k: what is passed and what is left make up the whole.
use Prim.Native.Nat.{ℕ, zero, suc, ◌-◌, ◌^◌, ◌≤◌, ◌<◌}
use mathlib.Core.Path.{◌≡◌, refl, sym, ap, ◌∙◌, subst}
use mathlib.Core.Bool.{Bool, true, false}
use mathlib.Core.List.{List, [], ◌∷◌, ◌++◌}
use native.Mathlib.Omega.{arith}
use native.Mathlib.Decide.{ℕ_discrete}
use lib.Dec.{eqb}
use lib.ListN.{length, length-append}
use borrow.Author.Tests.{eq-eqb, ne_eqb}
use Rattle.std.specs.Prelude.{if◌then◌else◌, Some, None, Result, Ok}
use Rattle.error.specs.declared.Refusal.{Refusal}
use Rattle.parse.specs.Answers.{answer_of}
use Rattle.parse.specs.Outcome.{Outcome, accept}
use Rattle.boxes.specs.Places.{nth, nth_found, PlaceFits}
use Rattle.boxes.specs.Walk.{count_found}
use Rattle.boxes.specs.declared.Span.{Span}
use Rattle.boxes.proofs.Walk.{after, after_nil, done_more, done_end}
use Rattle.unit_list.specs.inner.Walk.{TypedUnit, typed_units_from, Fits}
use Rattle.unit_list.specs.declared.ListCursor.{ListCursor}
use Rattle.list_units.specs.inner.Find.{wants, wanted_of, seeing, Found, Finds}
use Rattle.list_units.specs.declared.Wanted.{Wanted}
use Rattle.list_units.specs.declared.find.Seen.{Seen}
use Rattle.unit_list.proofs.Turns.{ListTurn}
use Rattle.list_units.proofs.WantedUnits.{wanted_more, wanted_less, wanted_none}

-- number k, with one more at the end
nth_last : (done : List Span) (a : Span) (k : ℕ) → (if eqb (length done) k then Some a else nth done k) ≡ nth (done ++ (a ∷ [])) k
unfolding nth
nth_last [] a zero = refl
nth_last [] a (suc k) = rw (ne_eqb 0 (suc k) (λ e. omega arith))
nth_last (x ∷ done) a zero = rw (ne_eqb (length (x ∷ done)) 0 (λ e. omega arith))
nth_last (x ∷ done) a (suc k) =
    elim (ℕ_discrete (length done) k) [
      | yes e ↦ let f : length (x ∷ done) ≡ suc k = omega arith in
          rw (eq-eqb (length (x ∷ done)) (suc k) f) (rw (eq-eqb (length done) k e) at (nth_last done a k))
      | no e ↦ rw (ne_eqb (length (x ∷ done)) (suc k) (λ f. e (omega arith))) (rw (ne_eqb (length done) k e) at (nth_last done a k))
    ]

module _ (s : List ℕ) (c : ListCursor) (w : Wanted) (k : ℕ) where
  -- the walk from c has come to `here` and has passed what is done
  pub record Walked (here : ListCursor) (seen : Seen) : Type 0 where
    pub fits : Fits s here
    pub done : List Span
    pub found : Found s done k seen
    pub few : seen.count ≤ here.at
    pub left : after done (wanted_of w (typed_units_from s here)) ≡ wanted_of w (typed_units_from s c)

  pub walked_start : Fits s c → Walked c (record { count = 0; unit = None })
  unfolding nth
  walked_start h = record {
    fits = h;
    done = [];
    found = record { count = refl; unit = refl; inside = tt };
    few = omega arith;
    left = after_nil (wanted_of w (typed_units_from s c));
  }

  -- one turn: the walk goes on to `next`, and the unit there still counts
  pub record Turn (here : ListCursor) (seen : Seen) (a : Span) (next : ListCursor) : Type 0 where
    pub few : seen.count < 2 ^ 30
    pub less : length s - next.at < length s - here.at
    pub again : Walked next (seeing w k next.unit_type a seen)

  module _ (here : ListCursor) (seen : Seen) (i : Walked here seen) where
    module _ (a : Span) (next : ListCursor) (turn : ListTurn s here a next) where
      abbrev here_unit : TypedUnit
      here_unit = record { unit = a; unit_type = next.unit_type }

      again : Walked next (seeing w k next.unit_type a seen)
      again = go (wants w next.unit_type) refl
        where
          kept : (b : Bool) → PlaceFits s (Ok (if b then Some a else seen.unit))
          kept true = turn.inside
          kept false = i.found.inside

          go : (b : Bool) → wants w next.unit_type ≡ b → Walked next (seeing w k next.unit_type a seen)
          go true h =
              rw h
              (record {
                fits = turn.passed.fits;
                done = i.done ++ (a ∷ []);
                found =
                    record {
                      count = omega (arith, i.found.count, length-append i.done (a ∷ []));
                      unit = rw (i.found.count, i.found.unit) (nth_last i.done a k);
                      inside = kept (eqb seen.count k);
                    };
                few = omega (arith, turn.ahead, i.few);
                left = done_more i.done (wanted_of w (typed_units_from s here)) (wanted_of w (typed_units_from s c)) i.left a
                    (wanted_of w (typed_units_from s next))
                    (sym (ap (wanted_of w) turn.typed) ∙ wanted_more w here_unit h (typed_units_from s next));
              })
          go false h =
              rw h
              (record {
                fits = turn.passed.fits;
                done = i.done;
                found = i.found;
                few = omega (arith, turn.ahead, i.few);
                left = ap (after i.done) (sym (wanted_less w here_unit h (typed_units_from s next)) ∙ ap (wanted_of w) turn.typed) ∙ i.left;
              })

      pub walked_turn : Turn here seen a next
      walked_turn =
          let x = turn.ahead in
          let y = turn.within in
          record { few = omega (arith, i.few, i.fits.before, i.fits.within, i.fits.lent); less = omega arith; again = again }

    pub walked_end : typed_units_from s here ≡ accept [] → Finds s (wanted_of w (typed_units_from s c)) k (Ok seen)
    walked_end g = (
      i.done,
      done_end i.done (wanted_of w (typed_units_from s here)) (wanted_of w (typed_units_from s c)) i.left (wanted_none w _ g),
      i.found,
    )

-- what the answer of a walk says that finds the units of o
module _ (s : List ℕ) (o : Outcome (List Span)) (k : ℕ) (v : Seen) (r : Result Seen Refusal) (said : Finds s o k r) (is : r ≡ Ok v) where
  finds : Finds s o k (Ok v)
  finds = subst (Finds s o k) is said

  pub found_count : accept v.count ≡ count_found o
  found_count = rw (← finds.1) (ap accept finds.2.count)

  pub found_unit : (answer_of (Ok v.unit) ≡ nth_found o k) × PlaceFits s (Ok v.unit)
  found_unit = (rw (← finds.1) (ap accept finds.2.unit), finds.2.inside)
