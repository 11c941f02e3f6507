-- What two lists with the same arrays have in common: the answer of every call that takes a list, over the definitions that the calls are proved
-- against. Where a part of the list lies is no part of this; its bytes are. A directory answers for the list that it was filled from.
use Rattle.std.specs.Prelude.{ℕ, ◌^◌, ◌≤◌, ◌≡◌, List, map, length, Option, None, Some}
use Rattle.parse.specs.Outcome.{Outcome, accept, refuse, and_then}
use Rattle.boxes.specs.Bytes.{AllBytes}
use Rattle.boxes.specs.Parts.{held}
use Rattle.boxes.specs.Walk.{count_found, found}
use Rattle.boxes.specs.declared.Span.{Span}
use Rattle.unit_list.specs.Answers.{list_units, list_units_of_type}
use Rattle.directory.specs.Directory.{list_entries, fill_directory, unit_asked, count_asked}
use Rattle.directory.specs.declared.Entry.{Entry}
use Rattle.directory.specs.declared.Asked.{Asked}
use Rattle.narrow.specs.Narrow.{narrowed, widened}
use Rattle.compact.specs.Compact.{serialize_compact}
use Rattle.compact.specs.declared.CompactVvcConfig.{CompactVvcConfig}
use Rattle.full.specs.Write.{serialize_full}
use Rattle.full.specs.declared.VvcConfig.{VvcConfig}
use Rattle.hvcc.specs.Write.{serialize_hevc}
use Rattle.hvcc.specs.declared.HevcConfig.{HevcConfig}
use Rattle.sample_format.specs.Format.{sample_format}
use Rattle.expand.specs.Expand.{to_full}
use Rattle.expand.specs.declared.Picture.{Picture}
use Rattle.access_unit.specs.declared.Source.{Source}
use Rattle.access_unit.specs.declared.Source.TheVariants.{OfList, OfItem}
use Rattle.access_unit.specs.AccessUnit.{access_unit, held_in, assemble}
use Rattle.access_unit.specs.declared.StartCodes.{StartCodes}

-- the type of a directory's entry, and the bytes of s that it stands for
abbrev pub entry_bytes : List ℕ → Entry → ℕ × List ℕ
entry_bytes s e = (e.unit_type, held s (record { start = e.offset; len = e.len }))

-- the bytes of the unit that a directory was asked for; none where it has no such unit
abbrev pub asked_bytes : List ℕ → Outcome (Option Span) → Outcome (Option (List ℕ))
asked_bytes s (accept (Some a)) = accept (Some (held s a))
asked_bytes s (accept None) = accept None
asked_bytes s (refuse e) = refuse e

-- Questions about s to a directory d and totals, and about t to d' and totals', have the same answers: the number of units of a type; the bytes of
-- the unit that is asked for, the first of a type or number k, or that there is none.
pub record SameAsked (s : List ℕ) (d : List Entry) (totals : List ℕ) (t : List ℕ) (d' : List Entry) (totals' : List ℕ) : Type 0 where
  pub count : (x : ℕ) → count_asked x t d' totals' ≡ count_asked x s d totals
  pub unit : (a : Asked) → asked_bytes t (unit_asked a t d' totals') ≡ asked_bytes s (unit_asked a s d totals)

-- a unit of an access unit lies in one of two slices: in the list, where it has these bytes, or in the item, at this span
pub data InSlice : Type 0 where
  in_list : List ℕ → InSlice
  in_item : Span → InSlice

abbrev pub slice_of : List ℕ → Source → InSlice
slice_of s (OfList a) = in_list (held s a)
slice_of s (OfItem a) = in_item a

pub record SameAnswers (s t : List ℕ) : Type 0 where
  -- how many units there are, and the bytes of unit k; the same for those of a type, and so for the record's SPS
  pub count : count_found (list_units t) ≡ count_found (list_units s)
  pub unit : (k : ℕ) → held t (found (list_units t) k) ≡ held s (found (list_units s) k)
  pub count_of_type : (x : ℕ) → count_found (list_units_of_type x t) ≡ count_found (list_units_of_type x s)
  pub unit_of_type : (x k : ℕ) → held t (found (list_units_of_type x t) k) ≡ held s (found (list_units_of_type x s) k)
  -- a directory: the number of entries or the refusal, the totals, and of each entry that is filled the type and the bytes
  pub filled : (d : List Entry) (totals : List ℕ) → (fill_directory t d totals).0 ≡ (fill_directory s d totals).0
  pub totals : (d : List Entry) (totals : List ℕ) → (fill_directory t d totals).1.1 ≡ (fill_directory s d totals).1.1
  pub entries : and_then (list_entries t) (λ es. accept (map (entry_bytes t) es)) ≡ and_then (list_entries s) (λ es. accept (map (entry_bytes s) es))
  -- questions to directories and totals that were filled, one from each list, whatever they held before
  pub asked : (before before' d d' : List Entry) (totals_before totals_before' totals totals' : List ℕ) (n n' : ℕ)
      → fill_directory s before totals_before ≡ (accept n, (d, totals)) → fill_directory t before' totals_before' ≡ (accept n', (d', totals'))
      → SameAsked s d totals t d' totals'
  -- narrowing and widening: the list of version 02 and that of version 01 with its arrays, or the refusal
  pub narrows : narrowed t ≡ narrowed s
  pub widens : widened t ≡ widened s
  -- what is written: a compact record, a full record, an HEVC record, the expanded list with its head
  pub compact : (c : CompactVvcConfig) → serialize_compact c t ≡ serialize_compact c s
  pub full : (h : VvcConfig) → serialize_full h t ≡ serialize_full h s
  pub hevc : (h : HevcConfig) → serialize_hevc h t ≡ serialize_hevc h s
  pub expanded : (c : CompactVvcConfig) (pic : Picture) → to_full c pic t ≡ to_full c pic s
  -- the sample format
  pub format : (h : VvcConfig) → sample_format h t ≡ sample_format h s
  -- the access unit: in which slice each of its units lies, the bytes of its units, and its stream
  pub slices : (h : VvcConfig) (item : List ℕ) (tols : Option ℕ)
      → and_then (access_unit h t item tols) (λ us. accept (map (slice_of t) us)) ≡ and_then (access_unit h s item tols) (λ us. accept (map (slice_of s) us))
  pub access_units : (h : VvcConfig) (item : List ℕ) (tols : Option ℕ)
      → and_then (access_unit h t item tols) (λ us. accept (map (held_in t item) us))
      ≡ and_then (access_unit h s item tols) (λ us. accept (map (held_in s item) us))
  pub stream : (codes : StartCodes) (h : VvcConfig) (item : List ℕ) (tols : Option ℕ) → assemble codes h t item tols ≡ assemble codes h s item tols

-- The claim, proved in proofs/BothVersions.antt: a list, narrowed or widened, has the answers of the list.
abbrev pub BothVersions : Type 0
BothVersions =
    (s : List ℕ) → AllBytes s → (t : List ℕ)
    → (narrowed s ≡ accept t → SameAnswers s t) × (widened s ≡ accept t → length t ≤ 2 ^ 30 → SameAnswers s t)
