-- Laws of the entries of a list, by its arrays.
use Prim.Native.Nat.{ℕ, ◌≤◌}
use mathlib.Core.Path.{◌≡◌, refl, ap, ◌∙◌}
use mathlib.Core.Bool.{Bool, true, false}
use mathlib.Core.List.{List, [], ◌∷◌, ◌++◌, map, map-append}
use lib.Dec.{eqb, leb}
use lib.ListN.{length}
use borrow.Author.Tests.{leb-true}
use Rattle.std.specs.Prelude.{if◌then◌else◌}
use Rattle.parse.specs.Outcome.{Outcome, accept, refuse, and_then}
use Rattle.boxes.specs.declared.Span.{Span}
use Rattle.unit_list.specs.UnitList.{Array, largest_type, decode, units_of, units_of_type}
use Rattle.unit_list.proofs.Arrays.{Sound, sound_more}
use Rattle.unit_list.proofs.Accepted.{accepted}
use Rattle.directory.specs.Directory.{entry_of, entries_of, entries_of_type, list_entries, fitting}
use Rattle.directory.specs.inner.Entries.{TypesFit}
use Rattle.directory.specs.declared.Entry.{Entry}

-- where an entry's unit lies; the units of the entries are those of the arrays
abbrev pub span_of : Entry → Span
span_of e = record { start = e.offset; len = e.len }

pub entries_spans : (xs : List (Array Span)) → map span_of (entries_of xs) ≡ units_of xs
unfolding entries_of units_of
entries_spans [] = refl
entries_spans (a ∷ xs) = map-append span_of (map (entry_of a.unit_type) a.units) (entries_of xs) ∙ rw (one a.units, entries_spans xs)
  where
    one : (us : List Span) → map span_of (map (entry_of a.unit_type) us) ≡ us
    one [] = refl
    one (u ∷ us) = ap (λ (l : List Span). u ∷ l) (one us)

-- and those of a type
pub entries_of_type_lem : (t : ℕ) (xs : List (Array Span)) → map span_of (entries_of_type t (entries_of xs)) ≡ units_of_type t xs
unfolding entries_of entries_of_type units_of_type
entries_of_type_lem t [] = refl
entries_of_type_lem t (a ∷ xs) = one (eqb a.unit_type t) refl a.units ∙ rw (entries_of_type_lem t xs)
  where
    one : (b : Bool) → eqb a.unit_type t ≡ b → (us : List Span)
        → map span_of (entries_of_type t (map (entry_of a.unit_type) us ++ entries_of xs))
        ≡ (if b then us ++ map span_of (entries_of_type t (entries_of xs)) else map span_of (entries_of_type t (entries_of xs)))
    one true h [] = refl
    one false h [] = refl
    one true h (u ∷ us) = rw h (ap (λ (l : List Span). u ∷ l) (one true h us))
    one false h (u ∷ us) = rw h (one false h us)

-- the types of a list that decodes have totals
types_append : (es fs : List Entry) → TypesFit es → TypesFit fs → TypesFit (es ++ fs)
unfolding TypesFit
types_append [] fs h k = k
types_append (e ∷ es) fs h k = (h.0, types_append es fs h.1 k)

types_one : (t : ℕ) (us : List Span) → t ≤ largest_type → TypesFit (map (entry_of t) us)
unfolding TypesFit
types_one t [] h = tt
types_one t (u ∷ us) h = (h, types_one t us h)

types_sound : (xs : List (Array Span)) → Sound xs → TypesFit (entries_of xs)
unfolding TypesFit entries_of
types_sound [] h = tt
types_sound (a ∷ xs) (sound_more c b t h) =
    types_append (map (entry_of a.unit_type) a.units) (entries_of xs) (types_one a.unit_type a.units t) (types_sound xs h)

pub types_decoded : (s : List ℕ) (xs : List (Array Span)) → decode s ≡ accept xs → TypesFit (entries_of xs)
types_decoded s xs e = types_sound xs (accepted s xs e).sound

-- what holds of every entry list that a directory has room for, and of every refusal, holds of what filling counts
module _ (s : List ℕ) (room : ℕ) (P : Outcome (List Entry) → Type 0) (refused : (n : ℕ) → P (refuse n))
    (fits : (xs : List (Array Span)) → decode s ≡ accept xs → length (entries_of xs) ≤ room → P (accept (entries_of xs))) where
  pub fitted : P (and_then (list_entries s) (fitting room))
  fitted = go (decode s) refl
    where
      room_for : (xs : List (Array Span)) → decode s ≡ accept xs → (b : Bool) → leb (length (entries_of xs)) room ≡ b
          → P (if b then accept (entries_of xs) else refuse 28)
      room_for xs e true h = fits xs e (leb-true (length (entries_of xs)) room h)
      room_for xs e false h = refused 28

      go : (o : Outcome (List (Array Span))) → decode s ≡ o → P (and_then (and_then o (λ xs. accept (entries_of xs))) (fitting room))
      go (accept xs) e = room_for xs e (leb (length (entries_of xs)) room) refl
      go (refuse n) e = refused n
