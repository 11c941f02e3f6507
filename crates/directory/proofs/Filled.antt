-- A directory that begins with the entries that were filled from a list, and the totals, answer as a walk over the list does.
use Prim.Native.Nat.{ℕ, zero, suc, ◌+◌, ◌≤◌}
use mathlib.Core.Path.{◌≡◌, refl, sym, ap, ◌∙◌}
use mathlib.Core.Bool.{Bool, true, false}
use mathlib.Core.List.{List, [], ◌∷◌, map}
use native.Mathlib.Omega.{arith}
use lib.Dec.{eqb}
use lib.ListN.{length, get_or, take, drop, length-take, length-map}
use lib.Seq.{take_at, take-take}
use borrow.Author.Tests.{le-leb}
use Rattle.std.specs.Prelude.{if◌then◌else◌}
use Rattle.parse.specs.Outcome.{Outcome, accept, overlay}
use Rattle.boxes.specs.Parts.{nowhere}
use Rattle.boxes.specs.Places.{nth}
use Rattle.boxes.specs.declared.Span.{Span}
use Rattle.unit_list.specs.UnitList.{Array, decode, units_of, units_of_type}
use Rattle.unit_list.proofs.Accepted.{accepted}
use Rattle.directory.specs.Directory.{entries_of, entries_of_type, filled, fill_directory, totals_of, in_use, asked_for, part_of_list, unit_asked}
use Rattle.directory.specs.Directory.{part_asked, count_asked}
use Rattle.directory.specs.Filled.{AnswersAsWalk, FilledAnswers, FrontsAnswer}
use Rattle.directory.specs.declared.Asked.{Asked}
use Rattle.directory.specs.declared.Asked.TheVariants.{FirstOfType, Number}
use Rattle.directory.specs.declared.Entry.{Entry}
use Rattle.directory.proofs.InUse.{used_fit}
use Rattle.directory.proofs.ListEntries.{span_of, entries_spans, entries_of_type_lem, types_decoded, fitted}
use Rattle.directory.proofs.Totals.{sum_totals, total_at}

-- each of the units lies inside s
abbrev Inside : List ℕ → List Span → Type 0
Inside s us = (k : ℕ) → (get_or us k nowhere).start + (get_or us k nowhere).len ≤ length s

-- the part of unit k, by the units
part_nth : (us : List Span) (k : ℕ) → part_asked (accept (nth us k)) ≡ get_or us k nowhere
unfolding nth
part_nth [] k = refl
part_nth (u ∷ us) zero = refl
part_nth (u ∷ us) (suc k) = part_nth us k

module _ (s : List ℕ) where
  -- the part of entry k is where its unit lies
  entry_nth : (es : List Entry) → Inside s (map span_of es) → (k : ℕ) → part_of_list s (nth es k) ≡ accept (nth (map span_of es) k)
  unfolding nth
  entry_nth [] h k = refl
  entry_nth (e ∷ es) h zero = rw (le-leb (e.offset + e.len) (length s) (h 0))
  entry_nth (e ∷ es) h (suc k) = entry_nth es (λ j. h (suc j)) k

  inside_type : (t : ℕ) (es : List Entry) → Inside s (map span_of es) → Inside s (map span_of (entries_of_type t es))
  unfolding entries_of_type
  inside_type t [] h = h
  inside_type t (e ∷ es) h = go (eqb e.unit_type t) (inside_type t es (λ j. h (suc j)))
    where
      go : (b : Bool) → Inside s (map span_of (entries_of_type t es)) → Inside s (map span_of (if b then e ∷ entries_of_type t es else entries_of_type t es))
      go true i zero = h 0
      go true i (suc k) = i k
      go false i k = i k

  -- a list that decodes, and a directory that begins with its entries
  module _ (xs : List (Array Span)) (e : decode s ≡ accept xs) (d : List Entry) (front : take (length (entries_of xs)) d ≡ entries_of xs) where
    abbrev es : List Entry
    es = entries_of xs

    inside : Inside s (map span_of es)
    inside = rw (entries_spans xs) (accepted s xs e).each

    -- the totals add up to the entries of the list, and the directory has as many
    used : in_use s (totals_of es) (length d) ≡ accept (length es)
    used =
        let n = sum_totals es (types_decoded s xs e) in
        let l = ap length front in
        let m = length-take (length es) d in
        sym (used_fit s (totals_of es) (length d) (accepted s xs e).lent (omega arith)) ∙ ap accept n

    asked : (a : Asked) → unit_asked a s d (totals_of es) ≡ part_of_list s (asked_for a es)
    unfolding unit_asked
    asked a = rw (used, front)

    first : (t : ℕ) → unit_asked (FirstOfType t) s d (totals_of es) ≡ accept (nth (units_of_type t xs) 0)
    first t = asked (FirstOfType t) ∙ entry_nth (entries_of_type t es) (inside_type t es inside) 0 ∙ rw (entries_of_type_lem t xs)

    number : (k : ℕ) → unit_asked (Number k) s d (totals_of es) ≡ accept (nth (units_of xs) k)
    number k = asked (Number k) ∙ entry_nth es inside k ∙ rw (entries_spans xs)

    count : (t : ℕ) → count_asked t s d (totals_of es) ≡ accept (length (units_of_type t xs))
    unfolding count_asked
    count t =
        rw used
        (ap accept (total_at t es (types_decoded s xs e) ∙ sym (length-map (entries_of_type t es) span_of) ∙ ap length (entries_of_type_lem t xs)))

    answers : AnswersAsWalk s d (totals_of es)
    answers = record {
      first_at = λ t. rw e (first t);
      first = λ t. rw e (ap part_asked (first t) ∙ part_nth (units_of_type t xs) 0);
      count = λ t. rw e (count t);
      number_at = λ k. rw e (number k);
      number = λ k. rw e (ap part_asked (number k) ∙ part_nth (units_of xs) k);
    }

-- filling has put the entries of the list at the directory's front
pub fronts_answer : FrontsAnswer
unfolding fill_directory
fronts_answer s before d totals_before totals n f e h =
    fitted s (length before) (λ o. filled o before totals_before ≡ (accept n, (d, totals)) → AnswersAsWalk s e totals)
    (λ m f. absurd (let g = ap (λ (x : Outcome ℕ × (List Entry × List ℕ)). x.0) f in let z : ◌≡◌ {A = ℕ} 0 1 = cc in omega arith))
    (λ xs r k f.
    let g = ap (λ (x : Outcome ℕ × (List Entry × List ℕ)). x.0) f in
    let l : length (entries_of xs) ≡ n = cc in
    let y : overlay (entries_of xs) before ≡ d = ap (λ (x : Outcome ℕ × (List Entry × List ℕ)). x.1.0) f in
    let z : totals_of (entries_of xs) ≡ totals = ap (λ (x : Outcome ℕ × (List Entry × List ℕ)). x.1.1) f in
    rw (← z) (answers s xs r e
    (ap (λ (i : ℕ). take i e) l ∙ h ∙ ap (take n) (sym y) ∙ take_at (entries_of xs) (drop (length (entries_of xs)) before) n l))) f

-- the directory that was filled, and its front of as many entries as are in use
module _ (s : List ℕ) (before d : List Entry) (totals_before totals : List ℕ) (n : ℕ)
    (f : fill_directory s before totals_before ≡ (accept n, (d, totals))) where
  pub filled_itself : AnswersAsWalk s d totals
  filled_itself = fronts_answer s before d totals_before totals n f d refl

  pub filled_front : AnswersAsWalk s (take n d) totals
  filled_front = fronts_answer s before d totals_before totals n f (take n d) (take-take n n d (omega arith))

-- the claim for the directory that was filled
pub filled_answers : FilledAnswers
filled_answers s before d totals_before totals n f = filled_itself s before d totals_before totals n f
