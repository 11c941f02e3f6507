-- Internal: the PTL of the parameter sets.
use Rattle.std.specs.Prelude.{ℕ, Bool, List}
use Rattle.parse.specs.Outcome.{Outcome, accept, and_then}
use Rattle.parse.specs.Steps.{or_refuse}
use Rattle.unit_list.specs.UnitList.{encode}
use Rattle.ptl.specs.declared.VvcPtlRecord.{VvcPtlRecord}
use Rattle.sps.specs.Sps.{parse_sps}
use Rattle.vps.specs.Vps.{vps_first_ptl}
use Rattle.grouping.specs.Grouping.{having_type, first_element, grouped}
use Rattle.full.specs.declared.VvcConfig.{VvcConfig}
use Rattle.expand.specs.Expand.{multi_layer_vps, ptl_of_sets, with_list}
use Rattle.expand.specs.declared.Expanded.{Expanded}

-- the PTL of the first VPS; refusal n if there is no VPS
abbrev pub first_vps_ptl : ℕ → List (List ℕ) → Outcome VvcPtlRecord
first_vps_ptl n us = and_then (or_refuse n (first_element (having_type 14 us))) vps_first_ptl

-- the PTL of the first SPS, or else of the first VPS
abbrev pub first_sps_ptl : List (List ℕ) → Outcome VvcPtlRecord
first_sps_ptl us = and_then (or_refuse 17 (first_element (having_type 15 us))) (λ unit. and_then (parse_sps unit) (λ sps. ptl_of_sets sps us))

-- the PTL of the parameter sets, after the VPS of step 1
abbrev pub sets_ptl : Bool → List (List ℕ) → Outcome VvcPtlRecord
sets_ptl multi_layer us = and_then (multi_layer_vps multi_layer us) (λ _. first_sps_ptl us)

-- the head and the list of units whose PTL is known
abbrev pub with_units : VvcConfig → List (List ℕ) → Outcome (Expanded × List ℕ)
with_units h us = accept (with_list h (encode (grouped us)))
