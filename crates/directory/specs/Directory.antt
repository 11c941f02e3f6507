-- A directory of the units of a list (SCOPE 4.12): how it is filled, and what a question to any directory and totals answers.
use Rattle.std.specs.Prelude.{ℕ, zero, suc, ◌+◌, List, [], ◌∷◌, ◌++◌, map, eqb, leb, length, get_or, take, if◌then◌else◌, Option, None, Some}
use Rattle.parse.specs.Outcome.{Outcome, accept, refuse, and_then, lent_input, overlay}
use Rattle.boxes.specs.Parts.{nowhere}
use Rattle.boxes.specs.Places.{nth}
use Rattle.boxes.specs.declared.Span.{Span}
use Rattle.unit_list.specs.UnitList.{Array, largest_type, decode}
use Rattle.directory.specs.declared.Entry.{Entry}
use Rattle.directory.specs.declared.Asked.{Asked}
use Rattle.directory.specs.declared.Asked.TheVariants.{FirstOfType, Number}

-- the entry of a unit in an array of type t: its first byte and its length in the list
abbrev pub entry_of : ℕ → Span → Entry
entry_of t a = record { unit_type = t; offset = a.start; len = a.len }

-- one entry for each unit, in list order
unfoldable pub entries_of : List (Array Span) → List Entry
entries_of [] = []
entries_of (a ∷ xs) = map (entry_of a.unit_type) a.units ++ entries_of xs

-- those of a type
unfoldable pub entries_of_type : ℕ → List Entry → List Entry
entries_of_type t [] = []
entries_of_type t (e ∷ es) = if eqb e.unit_type t then e ∷ entries_of_type t es else entries_of_type t es

-- what f gives for each of the n numbers from i on
unfoldable pub table_from : ℕ → ℕ → (ℕ → ℕ) → List ℕ
table_from i zero f = []
table_from i (suc n) f = f i ∷ table_from (suc i) n f

-- the totals: the number of entries of each type, 0 to 63
unfoldable pub totals_of : List Entry → List ℕ
totals_of es = table_from 0 (suc largest_type) (λ t. length (entries_of_type t es))

-- the entries of a list: 23, 21
abbrev pub list_entries : List ℕ → Outcome (List Entry)
list_entries s = and_then (decode s) (λ xs. accept (entries_of xs))

-- they are refused with 28 by a directory that has room for fewer
abbrev pub fitting : ℕ → List Entry → Outcome (List Entry)
fitting room es = if leb (length es) room then accept es else refuse 28

-- What filling returns, and what directory and totals hold afterwards: the number of entries; the entries at the directory's front, every other one
-- as it was; the totals. On a refusal nothing changes.
abbrev pub filled : Outcome (List Entry) → List Entry → List ℕ → Outcome ℕ × (List Entry × List ℕ)
filled (accept es) d totals = (accept (length es), (overlay es d, totals_of es))
filled (refuse e) d totals = (refuse e, (d, totals))

-- `fill`: 23, 21, 28
unfoldable pub fill_directory : List ℕ → List Entry → List ℕ → Outcome ℕ × (List Entry × List ℕ)
fill_directory s d totals = filled (and_then (list_entries s) (fitting (length d))) d totals

-- the sum of the totals, which may be above any number that a machine has
unfoldable pub sum : List ℕ → ℕ
sum [] = 0
sum (n ∷ ns) = n + sum ns

-- How many entries of a directory are in use, as many as the totals add up to; `room` is the directory's length: 23; 1 if they outnumber it.
-- The list is not read.
unfoldable pub in_use : List ℕ → List ℕ → ℕ → Outcome ℕ
in_use s totals room = lent_input s (if leb (sum totals) room then accept (sum totals) else refuse 1)

-- the entry that is asked for, if it is among the entries in use
abbrev pub asked_for : Asked → List Entry → Option Entry
asked_for (FirstOfType t) es = nth (entries_of_type t es) 0
asked_for (Number k) es = nth es k

-- an entry's part of the list: 1 if it passes the list's end
abbrev pub part_of_list : List ℕ → Option Entry → Outcome (Option Span)
part_of_list s None = accept None
part_of_list s (Some e) =
    if leb (e.offset + e.len) (length s) then accept (Some (record { start = e.offset; len = e.len })) else refuse 1

-- Where the unit that is asked for lies (`nal_unit_at`), by the entries in use alone: 23, 1.
unfoldable pub unit_asked : Asked → List ℕ → List Entry → List ℕ → Outcome (Option Span)
unit_asked asked s d totals = and_then (in_use s totals (length d)) (λ n. part_of_list s (asked_for asked (take n d)))

-- the part of the list that it is, the empty one where there is none and on a refusal (`nal_unit`)
abbrev pub part_asked : Outcome (Option Span) → Span
part_asked (accept (Some a)) = a
part_asked (accept None) = nowhere
part_asked (refuse e) = nowhere

-- The number of units of a type, by the totals alone (`nal_count_of_type`): 23, 1.
unfoldable pub count_asked : ℕ → List ℕ → List Entry → List ℕ → Outcome ℕ
count_asked t s d totals = and_then (in_use s totals (length d)) (λ n. accept (get_or totals t 0))
