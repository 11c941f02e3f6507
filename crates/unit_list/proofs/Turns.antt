-- What the start and a step of the walk over a list say of its units.
use Prim.Native.Nat.{ℕ, ◌+◌, ◌≤◌}
use mathlib.Core.Path.{◌≡◌, refl, sym, ap, ◌∙◌, subst}
use mathlib.Core.List.{List, []}
use mathlib.Core.Logic.{◌⊎◌, ⊎_elim, inl, inr}
use native.Mathlib.Omega.{arith}
use lib.ListN.{length}
use Rattle.std.specs.Borrow.{Bor}
use Rattle.std.specs.Prelude.{Option, Some, None, Result, Ok, Err}
use Rattle.error.specs.Refusals.{number_of}
use Rattle.error.specs.declared.Refusal.{Refusal}
use Rattle.parse.specs.Outcome.{Outcome, accept, refuse}
use Rattle.parse.specs.inner.Walk.{more}
use Rattle.boxes.specs.declared.Span.{Span}
use Rattle.unit_list.specs.UnitList.{Array, decode}
use Rattle.unit_list.specs.Answers.{list_units}
use Rattle.unit_list.specs.inner.Walk.{TypedUnit, typed_list, typed_units_from, unit_spans, untyped, units_left}
use Rattle.unit_list.specs.inner.Walk.{started, arrays_started, StartFits, stepped, TwoOrFour, Fits, Passed, StepFits}
use Rattle.unit_list.specs.inner.Walk.{arrays_from, array_units_from, units_stepped, UnitStepFits, arrays_stepped, ArrayStepFits}
use Rattle.unit_list.specs.inner.Walks.{left_of, arrays_left, Starts, with_next, UnitFound, ArrayUnitFound, ArrayFound}
use Rattle.unit_list.specs.declared.ListCursor.{ListCursor}
use Rattle.unit_list.specs.declared.ListWalk.{ListWalk}
use Rattle.unit_list.proofs.Arrays.{two_to_four}
use Rattle.unit_list.proofs.Units.{list_spans}

-- the first unit without its type, and the rest
untyped_more : (x : TypedUnit) (o : Outcome (List TypedUnit)) → untyped (more x o) ≡ more x.unit (untyped o)
unfolding unit_spans
untyped_more x (accept xs) = refl
untyped_more x (refuse e) = refl

-- a turn of the walk: the unit found after a cursor, before those after it; in a list a length has at least two bytes
pub record ListTurn (list : List ℕ) (here : ListCursor) (a : Span) (next : ListCursor) : Type 0 where
  pub passed : Passed TwoOrFour 2 list here a next
  pub ahead : here.at + 2 + a.len ≤ next.at
  pub within : next.at ≤ length list
  pub inside : a.start + a.len ≤ length list
  pub typed : more (record { unit = a; unit_type = next.unit_type }) (typed_units_from list next) ≡ typed_units_from list here
  pub rest : units_left list here ≡ more a (units_left list next)

module _ (list : List ℕ) (here : ListCursor) (r : Result (Option (Span × ListCursor)) Refusal) (said : (stepped list r ≡ typed_units_from list here) × StepFits list here r) where
  pub list_found : (a : Span) (next : ListCursor) → r ≡ Ok (Some (a, next)) → ListTurn list here a next
  list_found a next e =
      let p : Passed TwoOrFour here.width list here a next = subst (StepFits list here) e said.1 in
      let w : 2 ≤ here.width = omega (arith, p.same, (two_to_four next.width p.fits.width).0) in
      let t : stepped list (Ok (Some (a, next))) ≡ typed_units_from list here = sym (ap (stepped list) e) ∙ said.0 in
      record {
        passed = record { start = omega (arith, p.start); next = p.next; same = p.same; fits = p.fits };
        ahead = omega (arith, p.start, p.next);
        within = omega (arith, p.fits.before, p.fits.within);
        inside = omega (arith, p.next, p.fits.before, p.fits.within);
        typed = t;
        rest = ap untyped (sym t) ∙ untyped_more (record { unit = a; unit_type = next.unit_type }) (typed_units_from list next);
      }

  -- the walk's end and a malformed list: the units with their types, and without
  pub typed_end : r ≡ Ok None → typed_units_from list here ≡ accept []
  typed_end e = sym said.0 ∙ ap (stepped list) e

  pub list_end : r ≡ Ok None → units_left list here ≡ accept []
  unfolding unit_spans
  list_end e = ap untyped (typed_end e)

-- a step that found no unit
module _ (list : List ℕ) (here : ListCursor) where
  pub list_stops : (r : Result (Option (Span × ListCursor)) Refusal) → stepped list r ≡ typed_units_from list here → ((a : Span) (next : ListCursor) → r ≡ Ok (Some (a, next)) → ⊥)
      → (units_left list here ≡ accept []) ⊎ ((n : Refusal) × (units_left list here ≡ refuse (number_of n)))
  unfolding unit_spans
  list_stops (Ok (Some (a, next))) e k = absurd (k a next refl)
  list_stops (Ok None) e k = inl (ap untyped (sym e))
  list_stops (Err n) e k = inr (n, ap untyped (sym e))

  -- where units are found: none are left
  pub list_none : (r : Result (Option (Span × ListCursor)) Refusal) → stepped list r ≡ typed_units_from list here → ((a : Span) (next : ListCursor) → r ≡ Ok (Some (a, next)) → ⊥)
      → (us : List Span) → units_left list here ≡ accept us → us ≡ []
  list_none r e k us f =
      ⊎_elim (λ h. let w : accept [] ≡ accept us = sym h ∙ f in cc)
      (λ h. absurd (let w : refuse (number_of h.0) ≡ accept us = sym h.1 ∙ f in let z : ◌≡◌ {A = ℕ} 0 1 = cc in omega arith)) (list_stops r e k)

-- the start of the walk
module _ (list : List ℕ) (r : Result ListCursor Refusal) (said : (started list r ≡ typed_list list) × (arrays_started list r ≡ decode list) × StartFits list r) where
  pub start_typed : (c : ListCursor) → r ≡ Ok c → typed_units_from list c ≡ typed_list list
  start_typed c e = ap (started list) (sym e) ∙ said.0

  pub start_units : (c : ListCursor) → r ≡ Ok c → units_left list c ≡ list_units list
  start_units c e = ap untyped (start_typed c e) ∙ list_spans list

  pub start_refusal : (e : Refusal) → r ≡ Err e → refuse (number_of e) ≡ typed_list list
  start_refusal e w = ap (started list) (sym w) ∙ said.0

  pub start_refused : (e : Refusal) → r ≡ Err e → refuse (number_of e) ≡ list_units list
  start_refused e w = ap untyped (start_refusal e w) ∙ list_spans list

-- a step and the start of a walk that knows its list
module _ (l : Bor (List ℕ)) (w w' : ListWalk) (same : w.list ≡ l) (r : Result (Option Span) Refusal) (said : UnitFound w w' r) where
  pub walk_said : (stepped l.now (with_next w'.cursor r) ≡ typed_units_from l.now w.cursor) × StepFits l.now w.cursor (with_next w'.cursor r)
  walk_said =
      subst (λ (b : Bor (List ℕ)). (stepped b.now (with_next w'.cursor r) ≡ typed_units_from b.now w.cursor) × StepFits b.now w.cursor (with_next w'.cursor r)) same
      said

  pub walk_found : (a : Span) → r ≡ Ok (Some a) → ListTurn l.now w.cursor a w'.cursor
  walk_found a e = list_found l.now w.cursor (with_next w'.cursor r) walk_said a w'.cursor (ap (with_next w'.cursor) e)

  pub walk_end : r ≡ Ok None → units_left l.now w.cursor ≡ accept []
  walk_end e = list_end l.now w.cursor (with_next w'.cursor r) walk_said (ap (with_next w'.cursor) e)

  pub walk_typed_end : r ≡ Ok None → typed_units_from l.now w.cursor ≡ accept []
  walk_typed_end e = typed_end l.now w.cursor (with_next w'.cursor r) walk_said (ap (with_next w'.cursor) e)

  -- where no unit is found, none are left, if they can be read
  pub walk_none : ((a : Span) → r ≡ Ok (Some a) → ⊥) → (us : List Span) → units_left l.now w.cursor ≡ accept us → us ≡ []
  walk_none k = list_none l.now w.cursor (with_next w'.cursor r) walk_said.0 (λ a next e. go r k a next e)
    where
      go : (r : Result (Option Span) Refusal) → ((a : Span) → r ≡ Ok (Some a) → ⊥)
          → (a : Span) (next : ListCursor) → with_next w'.cursor r ≡ Ok (Some (a, next)) → ⊥
      go (Ok (Some b)) k a next e = k b refl
      go (Ok None) k a next e = cc
      go (Err n) k a next e = cc

-- the same of a step in an array, and of one to the next array
module _ (l : Bor (List ℕ)) (w w' : ListWalk) (same : w.list ≡ l) where
  pub in_array_said : (r : Result (Option Span) Refusal) → ArrayUnitFound w w' r
      → (units_stepped l.now (with_next w'.cursor r) ≡ array_units_from l.now w.cursor) × UnitStepFits l.now w.cursor (with_next w'.cursor r)
  in_array_said r said =
      subst
      (λ (b : Bor (List ℕ)). (units_stepped b.now (with_next w'.cursor r) ≡ array_units_from b.now w.cursor) × UnitStepFits b.now w.cursor (with_next w'.cursor r)) same
      said

  pub array_said : (r : Result (Option ℕ) Refusal) → ArrayFound w w' r
      → (arrays_stepped l.now (with_next w'.cursor r) ≡ arrays_from l.now w.cursor) × ArrayStepFits l.now w.cursor (with_next w'.cursor r)
  array_said r said =
      subst
      (λ (b : Bor (List ℕ)). (arrays_stepped b.now (with_next w'.cursor r) ≡ arrays_from b.now w.cursor) × ArrayStepFits b.now w.cursor (with_next w'.cursor r)) same
      said

-- where a walk starts
abbrev pub at_cursor : Result ListWalk Refusal → Result ListCursor Refusal
at_cursor (Ok w) = Ok w.cursor
at_cursor (Err e) = Err e

pub start_said : (l : Bor (List ℕ)) (r : Result ListWalk Refusal) → Starts l r
    → (started l.now (at_cursor r) ≡ typed_list l.now) × (arrays_started l.now (at_cursor r) ≡ decode l.now) × StartFits l.now (at_cursor r)
start_said l (Ok w) h =
    subst
    (λ (b : Bor (List ℕ)). (typed_units_from b.now w.cursor ≡ typed_list l.now) × (arrays_from b.now w.cursor ≡ decode l.now) × Fits b.now w.cursor) h.0
    (h.1, h.2, w.fits)
start_said l (Err e) h = (h.0, h.1, tt)

module _ (l : Bor (List ℕ)) (r : Result ListWalk Refusal) (said : Starts l r) where
  pub walk_list : (w : ListWalk) → r ≡ Ok w → w.list ≡ l
  walk_list w e = (subst (Starts l) e said).0

  pub walk_units : (w : ListWalk) → r ≡ Ok w → units_left l.now w.cursor ≡ list_units l.now
  walk_units w e = start_units l.now (at_cursor r) (start_said l r said) w.cursor (ap at_cursor e)

  pub walk_refused : (e : Refusal) → r ≡ Err e → refuse (number_of e) ≡ list_units l.now
  walk_refused e f = start_refused l.now (at_cursor r) (start_said l r said) e (ap at_cursor f)

  -- what is said of the walk's list and the units that are left is said of the list and all its units
  pub walk_over : (P : List ℕ → Outcome (List Span) → Type 0) (w : ListWalk) → r ≡ Ok w → P w.list.now (left_of w) → P l.now (list_units l.now)
  walk_over P w e h =
      subst (P l.now) (walk_units w e) (subst (λ (b : Bor (List ℕ)). P b.now (units_left b.now w.cursor)) (walk_list w e) h)

  pub arrays_over : (P : List ℕ → Outcome (List (Array Span)) → Type 0) (w : ListWalk) → r ≡ Ok w → P w.list.now (arrays_left w) → P l.now (decode l.now)
  arrays_over P w e h =
      let d : arrays_from l.now w.cursor ≡ decode l.now = ap (arrays_started l.now) (sym (ap at_cursor e)) ∙ (start_said l r said).1 in
      subst (P l.now) d (subst (λ (b : Bor (List ℕ)). P b.now (arrays_from b.now w.cursor)) (walk_list w e) h)
