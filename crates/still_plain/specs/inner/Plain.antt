-- Internal: the stream of a still with the flag clear, measured without an item.
use Rattle.std.specs.Prelude.{ℕ, ◌≤◌, ◌≡◌, List, [], length, None, Result, Ok, Err}
use Rattle.error.specs.declared.Refusal.{Refusal}
use Rattle.error.specs.Refusals.{number_of}
use Rattle.parse.specs.Outcome.{accept, refuse}
use Rattle.boxes.specs.Bytes.{to_chunk}
use Rattle.boxes.specs.declared.Span.{Span}
use Rattle.unit_list.specs.Answers.{list_units}
use Rattle.compact.specs.ItemData.{still_unit}
use Rattle.access_unit.specs.inner.Gathered.{gather}
use Rattle.access_unit_sizes.specs.inner.Sizes.{sizes_of}
use Rattle.access_unit.specs.declared.StartCodes.{StartCodes}
use Rattle.access_unit_sizes.specs.declared.sizes.Sizes.{Sizes}
use Rattle.still.specs.inner.Steps.{units_stream, plain_stream}

-- a list that was measured as an access unit without an item
pub record Listed (codes : StartCodes) (size : ℕ) (list : List ℕ) (sizes : Sizes) : Type 0 where
  pub units : List Span
  pub some : 1 ≤ length units
  pub listed : list_units list ≡ accept units
  pub gathered : gather size None list [] ≡ accept (record { units = units; kept = [] })
  pub sized : sizes ≡ sizes_of codes list [] (record { units = units; kept = [] })

-- n is the length of the item of stored bytes S with the flag clear
abbrev pub ItemLong : ℕ → List ℕ → ℕ → Type 0
ItemLong size S n = n ≡ length (to_chunk size (still_unit S))

-- the sizes of the list whose units are in the stream, or the refusal of the stream
abbrev pub PlainSizes : StartCodes → ℕ → List ℕ → List ℕ → Result Sizes Refusal → Type 0
PlainSizes codes size list S (Ok v) = Listed codes size list v × (plain_stream codes size list S ≡ units_stream codes list S)
PlainSizes codes size list S (Err e) = plain_stream codes size list S ≡ refuse (number_of e)
