-- Internal: the units of a list measured for a compact record, and the record of them.
use Rattle.std.specs.Prelude.{ℕ, ◌+◌, ◌^◌, ◌≤◌, true, not, ◌&&◌, List, map, leb, length, if◌then◌else◌, Result, Ok, Err}
use Rattle.error.specs.declared.Refusal.{Refusal}
use Rattle.parse.specs.Outcome.{Outcome, accept, refuse, and_then}
use Rattle.boxes.specs.Parts.{held}
use Rattle.boxes.specs.Bytes.{outside}
use Rattle.boxes.specs.declared.Span.{Span}
use Rattle.unit_list.specs.inner.Written.{unit_bytes}
use Rattle.compact.specs.Compact.{all_at_most, compact_bytes}
use Rattle.compact.specs.declared.CompactVvcConfig.{CompactVvcConfig}
use Rattle.compact_write.specs.declared.list_units.RecordSum.{RecordSum}

-- a unit of len bytes added: count, bytes after a length of one byte, and whether every length fits one byte
abbrev pub adding_unit : ℕ → RecordSum → RecordSum
adding_unit len v = record { count = v.count + 1; room = v.room + 1 + len; fits = v.fits && leb len 255 }

-- the units at spans of s added to v
abbrev pub adding_all : List ℕ → RecordSum → List Span → RecordSum
adding_all s v us =
    record { count = v.count + length us; room = v.room + length (unit_bytes 1 s us); fits = v.fits && all_at_most 255 (map (held s) us) }

-- the units that were found added to v
abbrev pub summed : List ℕ → RecordSum → Outcome (List Span) → Outcome RecordSum
summed s v o = and_then o (λ us. accept (adding_all s v us))

-- the sum over no units
abbrev pub no_units : RecordSum
no_units = record { count = 0; room = 0; fits = true }

-- the measured length is at most 2^32
abbrev pub SumFits : Result RecordSum Refusal → Type 0
SumFits (Ok v) = v.room ≤ 2 ^ 32
SumFits (Err e) = Unit {0}

-- the length of the record of units with the sum v. Refusals: 4, 8, 9
abbrev pub record_length : CompactVvcConfig → RecordSum → Outcome ℕ
record_length c v =
    if outside c.length_size then refuse 4
    else if not (leb 2 v.count && leb v.count 33) then refuse 8
    else if not v.fits then refuse 9
    else accept (1 + v.room)

-- the compact record of the units found in a list
abbrev pub compact_record_of : CompactVvcConfig → List ℕ → Outcome (List Span) → Outcome (List ℕ)
compact_record_of c list o = and_then o (λ us. compact_bytes c (map (held list) us))
