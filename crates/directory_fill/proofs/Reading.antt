-- Laws of a unit that a walk over a list comes to: its entry is the first of those that are left.
use Prim.Native.Nat.{ℕ, ◌≤◌, ◌<◌}
use mathlib.Core.Path.{◌≡◌, refl, sym, ap, subst, ◌∙◌}
use mathlib.Core.List.{List, ◌∷◌, map}
use native.Mathlib.Omega.{arith}
use lib.ListN.{length}
use Rattle.parse.specs.Outcome.{Outcome, accept, refuse}
use Rattle.parse.specs.inner.Walk.{more}
use Rattle.boxes.specs.declared.Span.{Span}
use Rattle.unit_list.specs.UnitList.{largest_type}
use Rattle.unit_list.specs.inner.Walk.{TypedUnit, typed_units_from}
use Rattle.unit_list.specs.declared.ListCursor.{ListCursor}
use Rattle.unit_list.proofs.Turns.{ListTurn}
use Rattle.directory.specs.Directory.{entry_of}
use Rattle.directory.specs.inner.Entries.{TypesFit}
use Rattle.directory.specs.declared.Entry.{Entry}
use Rattle.directory_fill.specs.inner.Entries.{entry_of_typed, entries_found, entries_from, Reads}

-- where one unit more reads: the others, and all of them
record Rest (u : TypedUnit) (o : Outcome (List TypedUnit)) (us : List TypedUnit) : Type 0 where
  rest : List TypedUnit
  reads : o ≡ accept rest
  all : us ≡ u ∷ rest

rest_reads : (u : TypedUnit) (o : Outcome (List TypedUnit)) (us : List TypedUnit) → more u o ≡ accept us → Rest u o us
rest_reads u (accept rest) us e = record { rest = rest; reads = refl; all = cc }
rest_reads u (refuse n) us e = absurd (let z : ◌≡◌ {A = ℕ} 0 1 = cc in omega arith)

-- a turn: the unit's type has a total, its entry is the first of those that are left, and the walk goes on to `next`
pub record ReadTurn (s : List ℕ) (here : ListCursor) (a : Span) (next : ListCursor) : Type 0 where
  pub turn : ListTurn s here a next
  pub units : Reads s next
  pub small : next.unit_type ≤ largest_type
  pub entries : entries_from s here ≡ entry_of next.unit_type a ∷ entries_from s next

module _ (s : List ℕ) (here : ListCursor) where
  module _ (h : Reads s here) (a : Span) (next : ListCursor) (turn : ListTurn s here a next) where
    rest : Rest (record { unit = a; unit_type = next.unit_type }) (typed_units_from s next) h.units
    rest = rest_reads _ _ _ (turn.typed ∙ h.reads)

    fit : TypesFit (entry_of next.unit_type a ∷ map entry_of_typed rest.rest)
    fit = rw rest.all at h.types

    pub read_turn : ReadTurn s here a next
    unfolding TypesFit
    read_turn = record {
      turn = turn;
      units = record { units = rest.rest; reads = rest.reads; types = fit.1 };
      small = fit.0;
      entries = ap entries_found h.reads ∙ ap (map entry_of_typed) rest.all
          ∙ ap (λ (es : List Entry). entry_of next.unit_type a ∷ es) (sym (ap entries_found rest.reads));
    }

-- where entries are left, that of the unit found is the first of them
pub entries_turn : (s : List ℕ) (here : ListCursor) (a : Span) (next : ListCursor) → ListTurn s here a next → 0 < length (entries_from s here)
    → entries_from s here ≡ entry_of next.unit_type a ∷ entries_from s next
entries_turn s here a next turn = go _ (typed_units_from s next) (typed_units_from s here) turn.typed
  where
    go : (u : TypedUnit) (o o' : Outcome (List TypedUnit)) → more u o ≡ o' → 0 < length (entries_found o') → entries_found o' ≡ entry_of_typed u ∷ entries_found o
    go u (accept us) o' e h = ap entries_found (sym e)
    go u (refuse n) o' e h = absurd (let z : 0 < length (entries_found (refuse n)) = subst (λ (x : Outcome (List TypedUnit)). 0 < length (entries_found x)) (sym e) h in omega arith)
