-- Internal: the kept units of an item; an access unit in order, and as a stream.
use Rattle.std.specs.Prelude.{ℕ, ◌+◌, ◌-◌, ◌^◌, ◌≤◌, List, [], ◌∷◌, ◌++◌, map, eqb, length, if◌then◌else◌, Option}
use Rattle.parse.specs.Outcome.{Outcome, accept, refuse, and_then, lent_input}
use Rattle.parse.specs.Steps.{◌>>=◌}
use Rattle.boxes.specs.Parts.{held}
use Rattle.boxes.specs.declared.Span.{Span}
use Rattle.nal.specs.Header.{type_or31}
use Rattle.unit_list.specs.Answers.{list_units}
use Rattle.split.specs.Item.{split_item}
use Rattle.annex_b.specs.Stream.{StartCode, code_bytes, annex_b}
use Rattle.annex_b.specs.RoundTrip.{one_if_three, threes}
unfoldable pub use Rattle.annex_b.specs.RoundTrip.{lengths}
use Rattle.split.specs.inner.Walk.{item_units_from}
use Rattle.access_unit.specs.declared.Source.{Source}
use Rattle.access_unit.specs.declared.Source.TheVariants.{OfList, OfItem}
use Rattle.access_unit.specs.AccessUnit.{leading, following, kept, held_in, code_of_type, code_of}
use Rattle.access_unit.specs.declared.StartCodes.{StartCodes}
use Rattle.access_unit.specs.declared.StartCodes.TheVariants.{Short}

-- a prefix size, and a place from which the units of an item can be walked
pub record Walks (size : ℕ) (item : List ℕ) (p : ℕ) : Type 0 where
  pub some : 1 ≤ size
  pub four : size ≤ 4
  pub within : p ≤ length item
  pub lent : length item ≤ 2 ^ 30

-- the kept units of an item from place p on. Refusals in byte order: 1, 5
unfoldable pub kept_left : ℕ → Option ℕ → List ℕ → ℕ → Outcome (List Span)
kept_left size target item p = and_then (item_units_from size item p) (λ xs. accept (kept item target xs))

-- ### gathered

-- the units of an access unit: those of the list, and the kept ones of the item
pub record Gathered : Type 0 where
  pub units : List Span
  pub kept : List Span

-- 19 for an access unit without units
abbrev pub some_gathered : Gathered → Outcome Gathered
some_gathered g = if eqb (length g.units + length g.kept) 0 then refuse 19 else accept g

-- the units of an access unit, gathered. Refusals: 23, 21, 4, then in byte order 1 and 5, 19
unfoldable pub gather : ℕ → Option ℕ → List ℕ → List ℕ → Outcome Gathered
gather size target list item = lent_input item do
  units ← list_units list
  split ← split_item size item
  some_gathered (record { units = units; kept = kept item target split })

-- ### in order

-- the leading kept units, the units of the list, the other kept units
unfoldable pub in_order : List ℕ → Gathered → List Source
in_order item g = map OfItem (leading item g.kept) ++ (map OfList g.units ++ map OfItem (following item g.kept))

-- the units of an access unit in order. Refusals: 23, 21, 4, then in byte order 1 and 5, 19
abbrev pub sources : ℕ → Option ℕ → List ℕ → List ℕ → Outcome (List Source)
sources size target list item = and_then (gather size target list item) (λ g. accept (in_order item g))

-- ### the stream

-- the start code of a unit that is not the first, and the unit after it
abbrev pub later_code : StartCodes → List ℕ → StartCode
later_code codes u = code_of_type codes (type_or31 u)

abbrev pub coded : StartCodes → List ℕ → List ℕ
coded codes u = code_bytes (later_code codes u) ++ u

-- the stream of the units at spans of s, none of which is the first
abbrev pub bytes_at : StartCodes → List ℕ → List Span → List ℕ
bytes_at codes s us = annex_b (λ k. later_code codes) (map (held s) us)

-- by how many bytes the first of these units has a longer start code for being the first: its zero_byte, or none
abbrev pub zero_byte_of : StartCodes → List (List ℕ) → ℕ
zero_byte_of codes [] = 0
zero_byte_of codes (u ∷ us) = 4 - length (code_bytes (later_code codes u))

-- the units of an access unit, and their stream
abbrev pub gathered_units : List ℕ → List ℕ → Gathered → List (List ℕ)
gathered_units list item g = map (held_in list item) (in_order item g)

abbrev pub gathered_bytes : StartCodes → List ℕ → List ℕ → Outcome Gathered → List ℕ
gathered_bytes codes list item (accept g) = annex_b (code_of codes) (gathered_units list item g)
gathered_bytes codes list item (refuse e) = []

-- ### what short codes save

-- how many bytes short codes save of a unit that is not the first, 0 or 1, and of units none of which is the first
abbrev pub saved : List ℕ → ℕ
saved u = one_if_three (later_code Short u)

abbrev pub saved_in : List (List ℕ) → ℕ
saved_in us = threes (λ k. later_code Short) us
