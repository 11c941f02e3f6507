-- Laws of the entries that the walk over a list comes to: they are those of its arrays; how many there are, whether a directory has room for them,
-- and what filling stores.
use Prim.Native.Nat.{ℕ, ◌≤◌, ◌<◌}
use mathlib.Core.Path.{◌≡◌, refl, sym, ap, ◌∙◌}
use mathlib.Core.Bool.{Bool, true, false}
use mathlib.Core.List.{List, [], ◌∷◌, map, map-append}
use native.Mathlib.Omega.{arith}
use lib.Dec.{leb}
use lib.ListN.{length, take, length-map}
use lib.Seq.{take-length, take_all}
use borrow.Author.Tests.{le-leb, lt-leb}
use Rattle.std.specs.Borrow.{Bor}
use Rattle.std.specs.Prelude.{if◌then◌else◌, Result, Ok, Err}
use Rattle.error.specs.Refusals.{number_of}
use Rattle.error.specs.declared.Refusal.{Refusal}
use Rattle.parse.specs.Outcome.{Outcome, accept, refuse, and_then, overlay}
use Rattle.boxes.specs.Walk.{count_found}
use Rattle.boxes.specs.declared.Span.{Span}
use Rattle.unit_list.specs.UnitList.{Array, decode, units_of}
use Rattle.unit_list.specs.Answers.{list_units}
use Rattle.unit_list.specs.inner.Walk.{TypedUnit, typed, typed_units, typed_list, started, arrays_started, StartFits}
use Rattle.unit_list.specs.declared.ListCursor.{ListCursor}
use Rattle.unit_list.specs.declared.ListWalk.{ListWalk}
use Rattle.unit_list.specs.inner.Walks.{Starts}
use Rattle.unit_list.proofs.Turns.{start_typed, at_cursor, start_said, walk_list}
use Rattle.directory.specs.Directory.{entry_of, entries_of, list_entries, fitting, filled, fill_directory, totals_of}
use Rattle.directory.specs.inner.Entries.{TypesFit}
use Rattle.directory.specs.declared.Entry.{Entry}
use Rattle.directory.proofs.ListEntries.{span_of, entries_spans, types_decoded, fitted}
use Rattle.directory_fill.specs.inner.Entries.{entry_of_typed, entries_found, entries_in, entries_from, entries_left, Reads, LeftReads, CountedOf, totals_for}

-- the entries of the units that the walk comes to are those of the arrays
pub entries_typed : (xs : List (Array Span)) → map entry_of_typed (typed_units xs) ≡ entries_of xs
unfolding typed typed_units entries_of
entries_typed [] = refl
entries_typed (a ∷ xs) =
    map-append entry_of_typed (typed a.unit_type a.units) (typed_units xs) ∙ rw (one a.unit_type a.units, entries_typed xs)
  where
    one : (t : ℕ) (us : List Span) → map entry_of_typed (typed t us) ≡ map (entry_of t) us
    one t [] = refl
    one t (u ∷ us) = ap (λ (es : List Entry). entry_of t u ∷ es) (one t us)

pub list_entries_lem : (s : List ℕ) (es : List Entry) → list_entries s ≡ accept es → entries_in s ≡ es
list_entries_lem s es e = go (decode s) e
  where
    go : (o : Outcome (List (Array Span))) → and_then o (λ xs. accept (entries_of xs)) ≡ accept es
        → entries_found (and_then o (λ xs. accept (typed_units xs))) ≡ es
    go (accept xs) e = let f : entries_of xs ≡ es = cc in entries_typed xs ∙ f
    go (refuse n) e = absurd (let z : ◌≡◌ {A = ℕ} 0 1 = cc in omega arith)

-- their types have totals
pub types_typed : (s : List ℕ) (us : List TypedUnit) → typed_list s ≡ accept us → TypesFit (map entry_of_typed us)
types_typed s us e = go (decode s) refl e
  where
    go : (o : Outcome (List (Array Span))) → decode s ≡ o → and_then o (λ xs. accept (typed_units xs)) ≡ accept us → TypesFit (map entry_of_typed us)
    go (accept xs) d e = let f : typed_units xs ≡ us = cc in rw (← f, entries_typed xs) (types_decoded s xs d)
    go (refuse n) d e = absurd (let z : ◌≡◌ {A = ℕ} 0 1 = cc in omega arith)

-- there are as many entries as units
pub count_entries : (s : List ℕ) → count_found (list_entries s) ≡ count_found (list_units s)
count_entries s = go (decode s)
  where
    go : (o : Outcome (List (Array Span))) → count_found (and_then o (λ xs. accept (entries_of xs))) ≡ count_found (and_then o (λ xs. accept (units_of xs)))
    go (accept xs) = ap accept (sym (length-map (entries_of xs) span_of) ∙ ap length (entries_spans xs))
    go (refuse n) = refl

-- whether a directory has room for entries, by their count
module _ (o : Outcome (List Entry)) (room : ℕ) where
  module _ (n : ℕ) (e : count_found o ≡ accept n) where
    by_count : count_found (and_then o (fitting room)) ≡ (if leb n room then accept n else refuse 28)
    by_count = go o e
      where
        tested : (es : List Entry) (b : Bool) → count_found (if b then accept es else refuse 28) ≡ (if b then accept (length es) else refuse 28)
        tested es true = refl
        tested es false = refl

        go : (o : Outcome (List Entry)) → count_found o ≡ accept n
            → count_found (and_then o (fitting room)) ≡ (if leb n room then accept n else refuse 28)
        go (accept es) e = let l : length es ≡ n = cc in rw (← l) (tested es (leb (length es) room))
        go (refuse m) e = absurd (let z : ◌≡◌ {A = ℕ} 0 1 = cc in omega arith)

    pub fitting_short : room < n → refuse 28 ≡ count_found (and_then o (fitting room))
    fitting_short h = rw (by_count, lt-leb n room h)

    pub fitting_room : n ≤ room → accept n ≡ count_found (and_then o (fitting room))
    fitting_room h = rw (by_count, le-leb n room h)

-- the walk over a list starts at c: the entries after c are those of the list
module _ (s : List ℕ) (r : Result ListCursor Refusal) (said : (started s r ≡ typed_list s) × (arrays_started s r ≡ decode s) × StartFits s r)
    (c : ListCursor) (g : r ≡ Ok c) where
  pub start_entries : entries_from s c ≡ entries_in s
  start_entries = ap entries_found (start_typed s r said c g)

  -- the units after c read where those of the list do
  pub start_reads : (us : List TypedUnit) → typed_list s ≡ accept us → Reads s c
  start_reads us t = record { units = us; reads = start_typed s r said c g ∙ t; types = types_typed s us t }

-- the same of a walk that knows its list
module _ (l : Bor (List ℕ)) (r : Result ListWalk Refusal) (said : Starts l r) (w : ListWalk) (e : r ≡ Ok w) where
  pub walk_entries : entries_left w ≡ entries_in l.now
  walk_entries = rw (walk_list l r said w e) (start_entries l.now (at_cursor r) (start_said l r said) w.cursor (ap at_cursor e))

  pub walk_reads : (us : List TypedUnit) × (typed_list l.now ≡ accept us) → LeftReads w
  walk_reads u = rw (walk_list l r said w e) (start_reads l.now (at_cursor r) (start_said l r said) w.cursor (ap at_cursor e) u.0 u.1)

-- a list has n entries, and a directory has room for them
module _ (s : List ℕ) (d : List Entry) (n : ℕ) (o : accept n ≡ count_found (and_then (list_entries s) (fitting (length d)))) where
  entries_at : (xs : List (Array Span)) → decode s ≡ accept xs → entries_in s ≡ entries_of xs
  entries_at xs e = list_entries_lem s (entries_of xs) (rw e)

  pub number_fits : (n ≤ length d) × (n ≤ length (entries_in s))
  number_fits =
      fitted s (length d) (λ o. accept n ≡ count_found o → (n ≤ length d) × (n ≤ length (entries_in s)))
      (λ m e. absurd (let z : ◌≡◌ {A = ℕ} 0 1 = cc in omega arith))
      (λ xs e h f. let l : n ≡ length (entries_of xs) = cc in rw (l, entries_at xs e) (h, omega arith)) o

  pub counted_reads : CountedOf s (accept n)
  counted_reads =
      fitted s (length d) (λ o. accept n ≡ count_found o → CountedOf s (accept n))
      (λ m e. absurd (let z : ◌≡◌ {A = ℕ} 0 1 = cc in omega arith)) (λ xs e h f. (typed_units xs, rw e)) o

  -- filling: the count, the entries that are stored, and the totals
  pub filled_is : (totals : List ℕ) → (accept n, (overlay (take n (entries_in s)) d, totals_for (accept n) s totals)) ≡ fill_directory s d totals
  unfolding fill_directory
  filled_is totals =
      fitted s (length d)
      (λ o. accept n ≡ count_found o → (accept n, (overlay (take n (entries_in s)) d, totals_for (accept n) s totals)) ≡ filled o d totals)
      (λ m e. absurd (let z : ◌≡◌ {A = ℕ} 0 1 = cc in omega arith))
      (λ xs e h f. let l : n ≡ length (entries_of xs) = cc in rw (entries_at xs e, l, take-length (entries_of xs))) o

  -- a directory that has room takes all entries
  all_taken : take (length d) (entries_in s) ≡ take n (entries_in s)
  all_taken =
      fitted s (length d) (λ o. accept n ≡ count_found o → take (length d) (entries_in s) ≡ take n (entries_in s))
      (λ m e. absurd (let z : ◌≡◌ {A = ℕ} 0 1 = cc in omega arith))
      (λ xs e h f.
      let l : n ≡ length (entries_of xs) = cc in
      rw (entries_at xs e, l) (take_all (length d) (entries_of xs) h ∙ sym (take-length (entries_of xs)))) o

-- a list that has no room, or does not read
pub unfitting : (s : List ℕ) (d : List Entry) (totals : List ℕ) (n : ℕ) → refuse n ≡ count_found (and_then (list_entries s) (fitting (length d)))
    → (refuse n, (d, totals)) ≡ fill_directory s d totals
unfolding fill_directory
unfitting s d totals n =
    fitted s (length d) (λ o. refuse n ≡ count_found o → (refuse n, (d, totals)) ≡ filled o d totals)
    (λ m e. ap (λ (o : Outcome ℕ). (o, (d, totals))) e) (λ xs e h f. absurd (let z : ◌≡◌ {A = ℕ} 0 1 = cc in omega arith))

-- filling by the walk over a list: it does not start, or the directory has room for the n entries after its start
module _ (s : List ℕ) (r : Result ListCursor Refusal) (said : (started s r ≡ typed_list s) × (arrays_started s r ≡ decode s) × StartFits s r)
    (d : List Entry) (totals : List ℕ) where
  pub start_unread : (e : Refusal) → r ≡ Err e → (refuse (number_of e), (d, totals)) ≡ fill_directory s d totals
  unfolding fill_directory
  start_unread e g =
      let f : refuse (number_of e) ≡ decode s = ap (arrays_started s) (sym g) ∙ said.1 in
      rw (← f)

  module _ (c : ListCursor) (g : r ≡ Ok c) (n : ℕ) (o : accept n ≡ count_found (and_then (list_entries s) (fitting (length d)))) where
    pub start_filled : (accept n, (overlay (take (length d) (entries_from s c)) d, totals_of (entries_from s c))) ≡ fill_directory s d totals
    start_filled = rw (start_entries s r said c g, all_taken s d n o) (filled_is s d n o totals)
