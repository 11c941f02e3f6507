-- Internal: the entries of a list as a walk comes to them.
use Rattle.std.specs.Prelude.{ℕ, suc, ◌+◌, ◌≤◌, ◌≡◌, List, [], map, length, get_or}
use Rattle.parse.specs.Outcome.{Outcome, accept, refuse}
use Rattle.unit_list.specs.UnitList.{largest_type}
use Rattle.unit_list.specs.inner.Walk.{TypedUnit, typed_list, typed_units_from}
use Rattle.unit_list.specs.declared.ListCursor.{ListCursor}
use Rattle.unit_list.specs.declared.ListWalk.{ListWalk}
use Rattle.directory.specs.Directory.{entry_of, entries_of_type, table_from, totals_of}
use Rattle.directory.specs.inner.Entries.{TypesFit}
use Rattle.directory.specs.declared.Entry.{Entry}

abbrev pub entry_of_typed : TypedUnit → Entry
entry_of_typed u = entry_of u.unit_type u.unit

-- the entries of units, none where they do not read
abbrev pub entries_found : Outcome (List TypedUnit) → List Entry
entries_found (accept us) = map entry_of_typed us
entries_found (refuse e) = []

-- those of a list, and those of the units after a cursor
abbrev pub entries_in : List ℕ → List Entry
entries_in s = entries_found (typed_list s)

abbrev pub entries_from : List ℕ → ListCursor → List Entry
entries_from s c = entries_found (typed_units_from s c)

-- the units after a cursor read, and their types have totals
pub record Reads (s : List ℕ) (c : ListCursor) : Type 0 where
  pub units : List TypedUnit
  pub reads : typed_units_from s c ≡ accept units
  pub types : TypesFit (map entry_of_typed units)

-- so do totals to which these units are added; each total, which counts units before the cursor, is at most its place
pub record Adds (s : List ℕ) (c : ListCursor) (totals : List ℕ) : Type 0 where
  pub units : Reads s c
  pub all : length totals ≡ suc largest_type
  pub few : (t : ℕ) → get_or totals t 0 ≤ c.at

-- the same of a walk: the entries of the units that are left, that these read, and that they can be added
abbrev pub entries_left : ListWalk → List Entry
entries_left w = entries_from w.list.now w.cursor

abbrev pub LeftReads : ListWalk → Type 0
LeftReads w = Reads w.list.now w.cursor

abbrev pub LeftAdds : ListWalk → List ℕ → Type 0
LeftAdds w totals = Adds w.list.now w.cursor totals

-- totals to which entries were added
unfoldable pub totals_plus : List ℕ → List Entry → List ℕ
totals_plus totals es = table_from 0 (suc largest_type) (λ t. get_or totals t 0 + length (entries_of_type t es))

-- a count is that of a list that reads
abbrev pub CountedOf : List ℕ → Outcome ℕ → Type 0
CountedOf s (accept n) = (us : List TypedUnit) × (typed_list s ≡ accept us)
CountedOf s (refuse e) = Unit {0}

-- the totals after a list was counted; as they were on a refusal
abbrev pub totals_for : Outcome ℕ → List ℕ → List ℕ → List ℕ
totals_for (accept n) s totals = totals_of (entries_in s)
totals_for (refuse e) s totals = totals
