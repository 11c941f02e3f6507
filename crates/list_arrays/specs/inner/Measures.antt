-- Internal: the arrays of a list as they are written in a layout: units and arrays measured and stored.
use Rattle.std.specs.Prelude.{ℕ, ◌+◌, ◌*◌, ◌/◌, ◌≤◌, ◌<◌, ◌≡◌, Bool, true, ◌&&◌, List, [], map, leb, eqb, length, if◌then◌else◌, Option, Some, None, Result, Ok, Err}
use Rattle.error.specs.Refusals.{number_of}
use Rattle.error.specs.declared.Refusal.{Refusal}
use Rattle.parse.specs.Outcome.{Outcome, accept, refuse, and_then}
use Rattle.boxes.specs.Bytes.{to_be}
use Rattle.boxes.specs.Parts.{held}
use Rattle.boxes.specs.declared.Span.{Span}
use Rattle.unit_list.specs.UnitList.{Array, array_with, encode_units, encode_array, encode_arrays, held_array, held_arrays, units_fit, lengths_fit}
use Rattle.unit_list.specs.inner.Walk.{arrays_from, Fits}
use Rattle.unit_list.specs.inner.Walks.{with_next, arrays_left}
use Rattle.unit_list.specs.declared.ListCursor.{ListCursor}
use Rattle.unit_list.specs.declared.ListWalk.{ListWalk}
use Rattle.record_arrays.specs.Read.{holds_one}
use Rattle.record_arrays.specs.Write.{array_bytes, arrays_bytes, first_fits, arrays_fit}
use Rattle.record_arrays.specs.inner.Counts.{count_len}
use Rattle.record_arrays.specs.declared.Codec.{Codec}
use Rattle.list_arrays.specs.declared.Layout.{Layout}
use Rattle.list_arrays.specs.declared.Layout.TheVariants as Y
use Rattle.list_arrays.specs.declared.measure.Measure.{Measure}

-- ---- arrays as they are written

-- how many bytes the length of a unit has
abbrev pub unit_width : Layout → ℕ
unit_width (Y.Record k) = 2
unit_width (Y.List w) = w.bytes

-- the count of units in an array of type t of a record
abbrev pub count_bytes : Codec → List ℕ → ℕ → List Span → List ℕ
count_bytes k s t us = if holds_one k t then [] else to_be 2 (length (map (held s) us))

-- an array with the complete byte b, type t and units at spans of s, in a record, in a list whose lengths have w bytes, and in either
abbrev pub array_in_record : Codec → List ℕ → ℕ → ℕ → List Span → List ℕ
array_in_record k s b t us = array_bytes k (held_array s (array_with b t us))

abbrev pub array_in_list : ℕ → List ℕ → ℕ → ℕ → List Span → List ℕ
array_in_list w s b t us = encode_array w (held_array s (array_with b t us))

abbrev pub array_laid : Layout → List ℕ → ℕ → ℕ → List Span → List ℕ
array_laid (Y.Record k) s b t us = array_in_record k s b t us
array_laid (Y.List w) s b t us = array_in_list w.bytes s b t us

-- arrays, and those with units at spans of s
abbrev pub laid_out : Layout → List (Array (List ℕ)) → List ℕ
laid_out (Y.Record k) xs = arrays_bytes k xs
laid_out (Y.List w) xs = encode_arrays w.bytes xs

abbrev pub arrays_laid : Layout → List ℕ → List (Array Span) → List ℕ
arrays_laid l s xs = laid_out l (held_arrays s xs)

-- whether arrays fit: their fields in a record; lengths of two bytes in a list
abbrev pub fit_laid : Layout → List (Array (List ℕ)) → Bool
fit_laid (Y.Record k) xs = arrays_fit k xs
fit_laid (Y.List w) xs = lengths_fit w.bytes xs

-- ---- measured

-- the sum of two measures
abbrev pub joined : Measure → Measure → Measure
joined a b = record { count = a.count + b.count; len = a.len + b.len; fits = a.fits && b.fits }

-- the measure of nothing
abbrev pub nothing : Measure
nothing = record { count = 0; len = 0; fits = true }

-- a unit of n bytes after its length of w bytes
abbrev pub unit_measure : ℕ → ℕ → Measure
unit_measure w n = record { count = 1; len = w + n; fits = leb n 65535 }

-- the measure of units, each after its length of w bytes
abbrev pub of_units : ℕ → List (List ℕ) → Measure
of_units w us = record { count = length us; len = length (encode_units w us); fits = units_fit us }

-- whether an array of a record with the complete byte b and type t fits, by the measure of its units
abbrev pub array_fits_by : Codec → ℕ → ℕ → Measure → Bool
array_fits_by k b t u =
    leb u.count 65535 && (u.fits && ((if holds_one k t then eqb u.count 1 else true) && first_fits k (b / 2) t))

-- the measure of an array with the complete byte b and type t, by that of its units: in a record, in a list, and in either
abbrev pub record_array_by : Codec → ℕ → ℕ → Measure → Measure
record_array_by k b t u = record { count = 1; len = 1 + count_len k t + u.len; fits = array_fits_by k b t u }

abbrev pub list_array_by : ℕ → Measure → Measure
list_array_by w u = record { count = 1; len = w + (2 + u.len); fits = leb (2 + u.len) 65535 && u.fits }

abbrev pub array_by : Layout → ℕ → ℕ → Measure → Measure
array_by (Y.Record k) b t u = record_array_by k b t u
array_by (Y.List w) b t u = list_array_by w.bytes u

-- the measure of arrays
abbrev pub of_arrays : Layout → List (Array (List ℕ)) → Measure
of_arrays l xs = record { count = length xs; len = length (laid_out l xs); fits = fit_laid l xs }

-- the measures of units and of arrays at spans of s
abbrev pub units_measure : ℕ → List ℕ → List Span → Measure
units_measure w s us = of_units w (map (held s) us)

abbrev pub arrays_measure : Layout → List ℕ → List (Array Span) → Measure
arrays_measure l s xs = of_arrays l (held_arrays s xs)

-- and for what was found
abbrev pub measured_by : {A : Type 0} → (A → Measure) → Outcome A → Outcome Measure
measured_by f o = and_then o (λ a. accept (f a))

-- units take at most twice the bytes that they take in the list
abbrev pub UnitsWithin : ListCursor → Result Measure Refusal → Type 0
UnitsWithin c (Ok m) = (2 * c.at + m.len ≤ 2 * c.end) × (c.at + m.count ≤ c.end)
UnitsWithin c (Err e) = Unit {0}

-- arrays take at most twice the bytes of the list
abbrev pub ArraysWithin : List ℕ → Result Measure Refusal → Type 0
ArraysWithin s (Ok m) = (m.len ≤ 2 * length s) × (m.count ≤ length s)
ArraysWithin s (Err e) = Unit {0}

-- m added to the measure of what is left
abbrev pub after_measured : Measure → Outcome Measure → Outcome Measure
after_measured m o = measured_by (joined m) o

-- the measure of all arrays after a cursor's end, by that of the first
abbrev pub array_measured : Layout → List ℕ → Result (Option (Measure × ListCursor)) Refusal → Outcome Measure
array_measured l s (Ok (Some (m, d))) = after_measured m (measured_by (arrays_measure l s) (arrays_from s d))
array_measured l s (Ok None) = accept nothing
array_measured l s (Err e) = refuse (number_of e)

-- an array takes at most twice the bytes that it takes in the list, where it lies from the end of c to the end of d
pub record Takes (s : List ℕ) (c : ListCursor) (m : Measure) (d : ListCursor) : Type 0 where
  pub one : m.count ≡ 1
  pub len : 2 * c.end + m.len ≤ 2 * d.end
  pub on : c.end < d.end
  pub fits : Fits s d

-- an answer whose array takes at most that many bytes
abbrev pub ArrayWithin : List ℕ → ListCursor → Result (Option (Measure × ListCursor)) Refusal → Type 0
ArrayWithin s c (Ok (Some (m, d))) = Takes s c m d
ArrayWithin s c (Ok None) = Unit {0}
ArrayWithin s c (Err e) = Unit {0}

-- a step that measures an array, from w to its units at w'
abbrev pub ArrayMeasured : Layout → ListWalk → ListWalk → Result (Option Measure) Refusal → Type 0
ArrayMeasured l w w' r =
    (array_measured l w.list.now (with_next w'.cursor r) ≡ measured_by (arrays_measure l w.list.now) (arrays_left w))
    × ArrayWithin w.list.now w.cursor (with_next w'.cursor r)
