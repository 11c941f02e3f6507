-- Internal: an access unit measured: the sums over the list and the item, and the sizes that they make.
use Rattle.std.specs.Prelude.{ℕ, ◌+◌, ◌*◌, ◌-◌, ◌^◌, ◌≤◌, ◌<◌, Bool, ◌&&◌, ◌||◌, List, map, eqb, ltb, length, if◌then◌else◌, Option}
use Rattle.parse.specs.Outcome.{Outcome, accept, refuse, and_then}
use Rattle.boxes.specs.Parts.{held}
use Rattle.boxes.specs.declared.Span.{Span}
use Rattle.split.specs.Item.{split_item}
use Rattle.access_unit.specs.AccessUnit.{may_lead, keeps, leading, kept}
use Rattle.access_unit.specs.inner.Gathered.{Gathered, zero_byte_of, gathered_units, gathered_bytes, lengths, saved, saved_in}
use Rattle.access_unit.specs.declared.StartCodes.{StartCodes}
use Rattle.access_unit.specs.declared.StartCodes.TheVariants.{Four, Short}
use Rattle.access_unit_sizes.specs.declared.sizes.UnitSum.{UnitSum}
use Rattle.access_unit_sizes.specs.declared.sizes.Sizes.{Sizes}

-- how many units lead when one is added: it leads if its kind may lead and all units before it lead
abbrev pub lead_with : Bool → UnitSum → ℕ
lead_with leads v = if leads && eqb v.lead v.count then v.count + 1 else v.lead

-- the zero byte of the first unit when one is added of which short codes save so many bytes
abbrev pub zero_with : ℕ → UnitSum → ℕ
zero_with saves v = if eqb v.count 0 then saves else v.zero_byte

-- one unit added, of which short codes save so many bytes, and of a length
abbrev pub adding : Bool → ℕ → ℕ → UnitSum → UnitSum
adding leads saves len v = record {
  count = v.count + 1;
  lead = lead_with leads v;
  lengths = v.lengths + len;
  saved = v.saved + saves;
  zero_byte = zero_with saves v;
}

abbrev pub adding_unit : Bool → List ℕ → ℕ → UnitSum → UnitSum
adding_unit leads u len v = adding leads (saved u) len v

-- a sum to which a unit of a length can be added
abbrev pub RoomFor : ℕ → UnitSum → Type 0
RoomFor len v = (v.count < 2 ^ 32) × (v.saved < 2 ^ 32) × (v.lengths + len < 2 ^ 32)

-- a unit of the item added, if it is kept
abbrev pub adding_kept : Option ℕ → List ℕ → Span → UnitSum → UnitSum
adding_kept target item a v = if keeps target (held item a) then adding_unit (may_lead (held item a)) (held item a) a.len v else v

-- the sum over the units at spans of s, of which so many lead
abbrev pub sum_of : List ℕ → List Span → ℕ → UnitSum
sum_of s us lead = record {
  count = length us;
  lead = lead;
  lengths = lengths (map (held s) us);
  saved = saved_in (map (held s) us);
  zero_byte = zero_byte_of Short (map (held s) us);
}

-- the sum over the kept units of an item
abbrev pub item_sum : List ℕ → List Span → UnitSum
item_sum item ks = sum_of item ks (length (leading item ks))

-- the sum over the units of a list, none of which leads
abbrev pub list_sum : List ℕ → List Span → UnitSum
list_sum list us = sum_of list us 0

-- the sum over a lent list or item is small
abbrev pub SmallSum : UnitSum → Type 0
SmallSum v = (v.count + v.lengths ≤ 2 ^ 30) × (v.saved ≤ v.count) × (v.zero_byte ≤ 1)

-- the number of units of the list, of kept units and of leading ones, the zero byte of the first, and the length of the stream
abbrev pub sizes_of : StartCodes → List ℕ → List ℕ → Gathered → Sizes
sizes_of codes list item g = record {
  listed = length g.units;
  kept = length g.kept;
  lead = length (leading item g.kept);
  zero_byte = zero_byte_of codes (gathered_units list item g);
  len = length (gathered_bytes codes list item (accept g));
}

-- the first unit is one of the item if one of them leads or the list has none; its zero byte with short codes, and with a choice
abbrev pub first_zero : UnitSum → UnitSum → ℕ
first_zero v w = if ltb 0 w.lead || eqb v.count 0 then w.zero_byte else v.zero_byte

abbrev pub zero_of : StartCodes → UnitSum → UnitSum → ℕ
zero_of Four v w = 0
zero_of Short v w = first_zero v w

-- how many bytes a choice saves where none of the units is the first
abbrev pub saved_of : StartCodes → UnitSum → UnitSum → ℕ
saved_of Four v w = 0
saved_of Short v w = v.saved + w.saved

-- the length of the stream: four bytes and its length for each unit, less what is saved
abbrev pub len_of : StartCodes → UnitSum → UnitSum → ℕ
len_of codes v w = 4 * (v.count + w.count) + v.lengths + w.lengths + zero_of codes v w - saved_of codes v w

-- the sizes of an access unit, from the sums over the list and the item; 19 for no units
abbrev pub both_sums : StartCodes → UnitSum → UnitSum → Outcome Sizes
both_sums codes v w =
    if eqb (v.count + w.count) 0 then refuse 19
    else accept (record { listed = v.count; kept = w.count; lead = w.lead; zero_byte = zero_of codes v w; len = len_of codes v w })

-- the sizes where the sum over the list is v. Refusals: 4, then in byte order 1 and 5, 19
abbrev pub sizes_with : StartCodes → ℕ → Option ℕ → List ℕ → UnitSum → Outcome Sizes
sizes_with codes size target item v = and_then (split_item size item) (λ split. both_sums codes v (item_sum item (kept item target split)))
