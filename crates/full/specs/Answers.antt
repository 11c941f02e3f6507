-- What the calls of a head return (SCOPE 4.3).
use Rattle.std.specs.Prelude.{ℕ, ◌+◌, List, ltb, if◌then◌else◌, Option}
use Rattle.parse.specs.Outcome.{Outcome, accept, refuse}
use Rattle.boxes.specs.Walk.{found}
use Rattle.boxes.specs.Places.{nth_found}
use Rattle.boxes.specs.declared.Span.{Span}
use Rattle.unit_list.specs.Answers.{list_units_of_type}
use Rattle.full.specs.declared.VvcConfig.{VvcConfig}

-- `VvcConfig::bit_depth`: 8 plus the field; 22 for a field above 247, since the sum does not fit a byte
unfoldable pub bit_depth_of : VvcConfig → Outcome ℕ
bit_depth_of h = if ltb 247 h.bit_depth_minus8 then refuse 22 else accept (h.bit_depth_minus8 + 8)

-- `VvcConfig::sps_at`: where the first unit in an array of type 15 lies, by the array's type; none if there is no such unit. Refusals: 23, 21
abbrev pub sps_place : List ℕ → Outcome (Option Span)
sps_place list = nth_found (list_units_of_type 15 list) 0

-- `VvcConfig::sps`: the span of that unit, empty if there is none and on a refusal
abbrev pub sps_span : List ℕ → Span
sps_span list = found (list_units_of_type 15 list) 0
