-- The claim of specs/BothVersions.antt.
use Prim.Native.Nat.{ℕ, zero, suc, ◌^◌}
use mathlib.Core.Path.{◌≡◌, refl, sym, ap, ◌∙◌}
use mathlib.Core.Bool.{Bool, true, false}
use mathlib.Core.List.{List, [], ◌∷◌, ◌++◌, map, map-append}
use native.Mathlib.Omega.{arith}
use lib.Dec.{leb}
use lib.ListN.{length}
use Rattle.std.specs.Prelude.{if◌then◌else◌, Option, None, Some}
use Rattle.parse.specs.Outcome.{Outcome, accept, refuse, and_then, lent_input}
use Rattle.boxes.specs.Parts.{held}
use Rattle.boxes.specs.Places.{nth, nth_found}
use Rattle.boxes.specs.declared.Span.{Span}
use Rattle.unit_list.specs.UnitList.{Array, largest_type, decode, units_of, units_of_type, held_arrays, contents, encode_as, lengths_fit}
use Rattle.unit_list.specs.Answers.{list_units, list_units_of_type}
use Rattle.unit_list.proofs.Units.{units_held}
use Rattle.directory.specs.Directory.{entry_of, entries_of, list_entries, entries_of_type, table_from, totals_of, fitting, filled, fill_directory}
use Rattle.directory.specs.Directory.{unit_asked}
use Rattle.directory.specs.Filled.{AnswersAsWalk}
use Rattle.directory.specs.declared.Asked.{Asked}
use Rattle.directory.specs.declared.Asked.TheVariants.{FirstOfType, Number}
use Rattle.directory.specs.declared.Entry.{Entry}
use Rattle.directory.proofs.Filled.{filled_itself}
use Rattle.directory.proofs.ListEntries.{span_of, entries_spans, entries_of_type_lem}
use Rattle.narrow.proofs.Versions.{same_arrays, same_answer}
use Rattle.compact.specs.Compact.{compact_bytes, serialize_compact}
use Rattle.full.specs.Write.{write_full, serialize_full}
use Rattle.full.specs.declared.VvcConfig.{VvcConfig}
use Rattle.hvcc.specs.Write.{write_hevc, serialize_hevc}
use Rattle.sample_format.specs.declared.SampleFormat.{SampleFormat}
use Rattle.sample_format.specs.Format.{head_format, sps_format_of, first_format, sample_format}
use Rattle.expand.specs.Expand.{expand_units, to_full}
use Rattle.split.specs.Item.{split_item}
use Rattle.annex_b.specs.Stream.{annex_b}
use Rattle.access_unit.specs.declared.Source.{Source}
use Rattle.access_unit.specs.declared.Source.TheVariants.{OfList, OfItem}
use Rattle.access_unit.specs.AccessUnit.{kept, leading, following, arranged, not_empty, target_of, access_unit, held_in}
use Rattle.access_unit.specs.AccessUnit.{code_of, assemble}
use Rattle.access_unit.specs.declared.StartCodes.{StartCodes}
use Rattle.both_versions.specs.BothVersions.{entry_bytes, asked_bytes, SameAsked, in_list, in_item, slice_of, SameAnswers, BothVersions}
use Rattle.expand.proofs.Units.{units_of_type_held}
use Rattle.both_versions.proofs.Units.{length_held, same_made, same_count, same_unit}

-- two lists with the same arrays
module _ (s t : List ℕ) (e : contents t ≡ contents s) where
  same_units : {B : Type 0} (f : List (List ℕ) → Outcome B)
      → and_then (list_units t) (λ us. f (map (held t) us)) ≡ and_then (list_units s) (λ us. f (map (held s) us))
  same_units f = same_made units_of units_of units_held s t e f

-- ### the sample format, by the units' bytes

first_of : List (List ℕ) → Outcome SampleFormat
first_of [] = refuse 17
first_of (u ∷ us) = sps_format_of u

first_held : (s : List ℕ) (us : List Span) → first_format s us ≡ first_of (map (held s) us)
unfolding first_format first_of
first_held s [] = refl
first_held s (a ∷ us) = refl

module _ (h : VvcConfig) where
  abbrev format_of : List (Array (List ℕ)) → Outcome SampleFormat
  format_of ys = if h.ptl_present_flag then head_format h else first_of (units_of_type 15 ys)

  format_by : (s : List ℕ) → sample_format h s ≡ and_then (decode s) (λ xs. format_of (held_arrays s xs))
  unfolding sample_format
  format_by s = go (decode s)
    where
      one : (xs : List (Array Span)) (b : Bool)
          → (if b then head_format h else first_format s (units_of_type 15 xs)) ≡ (if b then head_format h else first_of (units_of_type 15 (held_arrays s xs)))
      one xs true = refl
      one xs false = first_held s (units_of_type 15 xs) ∙ ap first_of (units_of_type_held 15 s xs)

      go : (o : Outcome (List (Array Span)))
          → and_then o (λ xs. if h.ptl_present_flag then head_format h else first_format s (units_of_type 15 xs))
          ≡ and_then o (λ xs. format_of (held_arrays s xs))
      go (accept xs) = one xs h.ptl_present_flag
      go (refuse n) = refl

-- ### the access unit, by the bytes of the list's units

-- what is said of each unit of the access unit: by the bytes of a unit of the list, by the span of a unit of the item
module _ {B : Type 0} (item : List ℕ) (said : List ℕ → Source → B) (of_bytes : List ℕ → B) (of_span : Span → B)
    (said-list : (s : List ℕ) (a : Span) → said s (OfList a) ≡ of_bytes (held s a)) (said-item : (s : List ℕ) (a : Span) → said s (OfItem a) ≡ of_span a)
  where
    items_said : (s : List ℕ) (us : List Span) → map (said s) (map OfItem us) ≡ map of_span us
    items_said s [] = refl
    items_said s (a ∷ us) = rw (said-item s a, items_said s us)

    list_said : (s : List ℕ) (us : List Span) → map (said s) (map OfList us) ≡ map of_bytes (map (held s) us)
    list_said s [] = refl
    list_said s (a ∷ us) = rw (said-list s a, list_said s us)

    abbrev said_of : Option ℕ → List (List ℕ) → List Span → List B
    said_of target us split =
        map of_span (kept item target (leading item split)) ++ (map of_bytes us ++ map of_span (kept item target (following item split)))

    arranged_said : (s : List ℕ) (target : Option ℕ) (us split : List Span)
        → map (said s) (arranged item target us split) ≡ said_of target (map (held s) us) split
    unfolding arranged
    arranged_said s target us split =
        let first = kept item target (leading item split) in
        let last = kept item target (following item split) in
        map-append (said s) (map OfItem first) (map OfList us ++ map OfItem last)
        ∙ rw (map-append (said s) (map OfList us) (map OfItem last), items_said s first, list_said s us, items_said s last)

    some_said : List B → Outcome (List B)
    some_said [] = refuse 19
    some_said (u ∷ us) = accept (u ∷ us)

    some_said_lem : (s : List ℕ) (us : List Source) → and_then (not_empty us) (λ us. accept (map (said s) us)) ≡ some_said (map (said s) us)
    unfolding some_said
    some_said_lem s [] = refl
    some_said_lem s (u ∷ us) = refl

    module _ (h : VvcConfig) (tols : Option ℕ) where
      abbrev said_all : List (List ℕ) → Outcome (List B)
      said_all us = and_then (split_item h.length_size item) (λ split. some_said (said_of (target_of h tols) us split))

      access_by : (s : List ℕ)
          → and_then (access_unit h s item tols) (λ us. accept (map (said s) us))
          ≡ lent_input item (and_then (list_units s) (λ us. said_all (map (held s) us)))
      unfolding access_unit
      access_by s = go (leb (length item) (2 ^ 30)) (list_units s) (split_item h.length_size item)
        where
          go : (b : Bool) (o p : Outcome (List Span))
              → and_then (if b then and_then o (λ us. and_then p (λ split. not_empty (arranged item (target_of h tols) us split))) else refuse 23)
              (λ us. accept (map (said s) us))
              ≡ (if b then and_then o (λ us. and_then p (λ split. some_said (said_of (target_of h tols) (map (held s) us) split))) else refuse 23)
          go false o p = refl
          go true (refuse n) p = refl
          go true (accept us) (refuse n) = refl
          go true (accept us) (accept split) =
              some_said_lem s (arranged item (target_of h tols) us split) ∙ ap some_said (arranged_said s (target_of h tols) us split)

      same_said : (s t : List ℕ) → contents t ≡ contents s
          → and_then (access_unit h t item tols) (λ us. accept (map (said t) us)) ≡ and_then (access_unit h s item tols) (λ us. accept (map (said s) us))
      same_said s t e = access_by t ∙ ap (lent_input item) (same_units s t e said_all) ∙ sym (access_by s)

-- ### a directory, by the units' bytes

length_spans : (es : List Entry) → length (map span_of es) ≡ length es
length_spans [] = refl
length_spans (x ∷ es) = let l = length_spans es in omega arith

table_same : (i n : ℕ) (f g : ℕ → ℕ) → ((x : ℕ) → f x ≡ g x) → table_from i n f ≡ table_from i n g
unfolding table_from
table_same i zero f g h = refl
table_same i (suc n) f g h = rw (h i, table_same (suc i) n f g h)

module _ (d : List Entry) (totals : List ℕ) where
  -- the number of entries and the totals, or the refusal
  abbrev answer : Bool → ℕ → List ℕ → Outcome (ℕ × List ℕ)
  answer true n all = accept (n, all)
  answer false n all = refuse 28

  abbrev filling : List (Array (List ℕ)) → Outcome (ℕ × List ℕ)
  filling ys = answer (leb (length (units_of ys)) (length d)) (length (units_of ys)) (table_from 0 (suc largest_type) (λ x. length (units_of_type x ys)))

  abbrev number_in : Outcome (ℕ × List ℕ) → Outcome ℕ
  number_in (accept r) = accept r.0
  number_in (refuse n) = refuse n

  abbrev totals_in : Outcome (ℕ × List ℕ) → List ℕ
  totals_in (accept r) = r.1
  totals_in (refuse n) = totals

  filled_by : (es : List Entry) (n : ℕ) (all : List ℕ) → length es ≡ n → totals_of es ≡ all
      → ((filled (fitting (length d) es) d totals).0 ≡ number_in (answer (leb n (length d)) n all))
      × ((filled (fitting (length d) es) d totals).1.1 ≡ totals_in (answer (leb n (length d)) n all))
  filled_by es n all k l = rw k (go (leb n (length d)))
    where
      go : (b : Bool) → ((filled (if b then accept es else refuse 28) d totals).0 ≡ number_in (answer b n all))
          × ((filled (if b then accept es else refuse 28) d totals).1.1 ≡ totals_in (answer b n all))
      go true = (ap accept k, l)
      go false = (refl, refl)

  fill_by : (s : List ℕ)
      → ((fill_directory s d totals).0 ≡ number_in (and_then (decode s) (λ xs. filling (held_arrays s xs))))
      × ((fill_directory s d totals).1.1 ≡ totals_in (and_then (decode s) (λ xs. filling (held_arrays s xs))))
  unfolding fill_directory totals_of
  fill_by s = go (decode s)
    where
      go : (o : Outcome (List (Array Span)))
          → ((filled (and_then (and_then o (λ xs. accept (entries_of xs))) (fitting (length d))) d totals).0
          ≡ number_in (and_then o (λ xs. filling (held_arrays s xs))))
          × ((filled (and_then (and_then o (λ xs. accept (entries_of xs))) (fitting (length d))) d totals).1.1
          ≡ totals_in (and_then o (λ xs. filling (held_arrays s xs))))
      go (refuse n) = (refl, refl)
      go (accept xs) =
          filled_by (entries_of xs) (length (units_of (held_arrays s xs)))
          (table_from 0 (suc largest_type) (λ x. length (units_of_type x (held_arrays s xs))))
          (sym (length_spans (entries_of xs)) ∙ ap length (entries_spans xs) ∙ sym (length_held s (units_of xs)) ∙ ap length (units_held s xs))
          (table_same 0 (suc largest_type) (λ x. length (entries_of_type x (entries_of xs))) (λ x. length (units_of_type x (held_arrays s xs)))
          (λ x. sym (length_spans (entries_of_type x (entries_of xs))) ∙ ap length (entries_of_type_lem x xs) ∙ sym (length_held s (units_of_type x xs))
          ∙ ap length (units_of_type_held x s xs)))

-- the entries, by the arrays' types and the units' bytes
typed_bytes : List (Array (List ℕ)) → List (ℕ × List ℕ)
typed_bytes [] = []
typed_bytes (a ∷ ys) = map (λ u. (a.unit_type, u)) a.units ++ typed_bytes ys

entries_typed : (s : List ℕ) (x : ℕ) (us : List Span) → map (entry_bytes s) (map (entry_of x) us) ≡ map (λ u. (x, u)) (map (held s) us)
entries_typed s x [] = refl
entries_typed s x (a ∷ us) = rw (entries_typed s x us)

entries_bytes : (s : List ℕ) (xs : List (Array Span)) → map (entry_bytes s) (entries_of xs) ≡ typed_bytes (held_arrays s xs)
unfolding entries_of typed_bytes
entries_bytes s [] = refl
entries_bytes s (a ∷ xs) =
    map-append (entry_bytes s) (map (entry_of a.unit_type) a.units) (entries_of xs)
    ∙ rw (entries_typed s a.unit_type a.units, entries_bytes s xs)

entries_by : (s : List ℕ)
    → and_then (list_entries s) (λ es. accept (map (entry_bytes s) es)) ≡ and_then (decode s) (λ xs. accept (typed_bytes (held_arrays s xs)))
entries_by s = go (decode s)
  where
    go : (o : Outcome (List (Array Span)))
        → and_then (and_then o (λ xs. accept (entries_of xs))) (λ es. accept (map (entry_bytes s) es))
        ≡ and_then o (λ xs. accept (typed_bytes (held_arrays s xs)))
    go (accept xs) = ap accept (entries_bytes s xs)
    go (refuse n) = refl

-- ### questions to a directory, by the units' bytes

module _ (s : List ℕ) where
  nth_place : (us : List Span) (k : ℕ) → asked_bytes s (accept (nth us k)) ≡ accept (nth (map (held s) us) k)
  unfolding nth
  nth_place [] k = refl
  nth_place (u ∷ us) zero = refl
  nth_place (u ∷ us) (suc k) = nth_place us k

  found_place : (o : Outcome (List Span)) (k : ℕ) → asked_bytes s (nth_found o k) ≡ and_then o (λ us. accept (nth (map (held s) us) k))
  found_place (accept us) k = nth_place us k
  found_place (refuse n) k = refl

  -- the answer of a walk, by the units' bytes
  walked : (o : Outcome (Option Span)) (us : Outcome (List Span)) (k : ℕ) → o ≡ nth_found us k
      → asked_bytes s o ≡ and_then us (λ us. accept (nth (map (held s) us) k))
  walked o us k e = ap (asked_bytes s) e ∙ found_place us k

  -- the unit that is asked for, by the bytes of the units that a walk finds
  module _ (d : List Entry) (totals : List ℕ) (w : AnswersAsWalk s d totals) where
    first_bytes : (x : ℕ) → asked_bytes s (unit_asked (FirstOfType x) s d totals) ≡ and_then (list_units_of_type x s) (λ us. accept (nth (map (held s) us) 0))
    first_bytes x = walked (unit_asked (FirstOfType x) s d totals) (list_units_of_type x s) 0 (w.first_at x)

    number_bytes : (k : ℕ) → asked_bytes s (unit_asked (Number k) s d totals) ≡ and_then (list_units s) (λ us. accept (nth (map (held s) us) k))
    number_bytes k = walked (unit_asked (Number k) s d totals) (list_units s) k (w.number_at k)

module _ (s t : List ℕ) (e : contents t ≡ contents s) (d d' : List Entry) (totals totals' : List ℕ) (w : AnswersAsWalk s d totals)
    (w' : AnswersAsWalk t d' totals') where
  same_part : (a : Asked) → asked_bytes t (unit_asked a t d' totals') ≡ asked_bytes s (unit_asked a s d totals)
  same_part (FirstOfType x) =
      first_bytes t d' totals' w' x
      ∙ same_made (units_of_type x) (units_of_type x) (units_of_type_held x) s t e (λ us. accept (nth us 0))
      ∙ sym (first_bytes s d totals w x)
  same_part (Number k) = number_bytes t d' totals' w' k ∙ same_units s t e (λ us. accept (nth us k)) ∙ sym (number_bytes s d totals w k)

  same_asked : SameAsked s d totals t d' totals'
  same_asked = record {
    count = λ x. w'.count x ∙ same_count (units_of_type x) (units_of_type x) (units_of_type_held x) s t e ∙ sym (w.count x);
    unit = same_part;
  }

-- ### the claim

same_answers : (s t : List ℕ) → contents t ≡ contents s → SameAnswers s t
unfolding serialize_compact serialize_full serialize_hevc to_full assemble
same_answers s t e =
    record {
      count = same_count units_of units_of units_held s t e;
      unit = same_unit units_of units_of units_held s t e;
      count_of_type = λ x. same_count (units_of_type x) (units_of_type x) (units_of_type_held x) s t e;
      unit_of_type = λ x k. same_unit (units_of_type x) (units_of_type x) (units_of_type_held x) s t e k;
      filled = λ d totals. (fill_by d totals t).0
          ∙ ap (number_in d totals) (same_answer (ℕ × List ℕ) (filling d totals) s t e) ∙ sym (fill_by d totals s).0;
      totals = λ d totals. (fill_by d totals t).1
          ∙ ap (totals_in d totals) (same_answer (ℕ × List ℕ) (filling d totals) s t e) ∙ sym (fill_by d totals s).1;
      entries = entries_by t ∙ same_answer (List (ℕ × List ℕ)) (λ ys. accept (typed_bytes ys)) s t e ∙ sym (entries_by s);
      asked = λ before before' d d' totals_before totals_before' totals totals' n n' f f'.
          same_asked s t e d d' totals totals' (filled_itself s before d totals_before totals n f)
          (filled_itself t before' d' totals_before' totals' n' f');
      narrows = ap (λ (o : Outcome (List (Array (List ℕ)))). and_then o (λ xs. if lengths_fit 2 xs then accept (encode_as 2 xs) else refuse 29)) e;
      widens = ap (λ (o : Outcome (List (Array (List ℕ)))). and_then o (λ xs. accept (encode_as 1 xs))) e;
      compact = λ c. same_units s t e (compact_bytes c);
      full = λ h. same_answer (List ℕ) (write_full h) s t e;
      hevc = λ h. same_answer (List ℕ) (write_hevc h) s t e;
      expanded = λ c pic. same_units s t e (expand_units c pic);
      format = λ h. format_by h t ∙ same_answer SampleFormat (format_of h) s t e ∙ sym (format_by h s);
      slices = λ h item tols. same_said item slice_of in_list in_item (λ s a. refl) (λ s a. refl) h tols s t e;
      access_units = units;
      stream = λ codes h item tols. stream_by codes h item tols t
          ∙ ap (λ (o : Outcome (List (List ℕ))). and_then o (λ us. accept (annex_b (code_of codes) us))) (units h item tols)
          ∙ sym (stream_by codes h item tols s);
    }
  where
    units : (h : VvcConfig) (item : List ℕ) (tols : Option ℕ)
        → and_then (access_unit h t item tols) (λ us. accept (map (held_in t item) us))
        ≡ and_then (access_unit h s item tols) (λ us. accept (map (held_in s item) us))
    units h item tols = same_said item (λ s. held_in s item) (λ u. u) (held item) (λ s a. refl) (λ s a. refl) h tols s t e

    stream_by : (codes : StartCodes) (h : VvcConfig) (item : List ℕ) (tols : Option ℕ) (r : List ℕ)
        → assemble codes h r item tols
        ≡ and_then (and_then (access_unit h r item tols) (λ us. accept (map (held_in r item) us))) (λ us. accept (annex_b (code_of codes) us))
    stream_by codes h item tols r = go (access_unit h r item tols)
      where
        go : (o : Outcome (List Source))
            → and_then o (λ us. accept (annex_b (code_of codes) (map (held_in r item) us)))
            ≡ and_then (and_then o (λ us. accept (map (held_in r item) us))) (λ us. accept (annex_b (code_of codes) us))
        go (accept us) = refl
        go (refuse n) = refl

pub both_versions : BothVersions
both_versions s all t = (
  λ e. same_answers s t ((same_arrays s all t).0 e),
  λ e h. same_answers s t ((same_arrays s all t).1 e h),
)
