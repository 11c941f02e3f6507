-- Internal: a record of a head and arrays, whichever head it has and whatever reads it.
use Rattle.std.specs.Prelude.{List}
use Rattle.parse.specs.Parse.{Parser, ◌>>=◌, give, times}
use Rattle.boxes.specs.Bytes.{uint}
use Rattle.boxes.specs.declared.Span.{Span}
use Rattle.unit_list.specs.UnitList.{Array}
use Rattle.record_arrays.specs.Read.{record_array}
use Rattle.record_arrays.specs.declared.Codec.{Codec}

-- the record: the head, num_of_arrays, the arrays
abbrev pub record_with : {H : Type 0} → Codec → Parser H → Parser (H × List (Array Span))
record_with k read_head = do
  head ← read_head
  n ← uint 1
  arrays ← times n (record_array k)
  give (head, arrays)
