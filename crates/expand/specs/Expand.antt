-- Expansion of a compact record to a full one (SCOPE 3.8; ISO/IEC 23008-12 Amd 2 L.4.3.3.4).
use Rattle.std.specs.Prelude.{ℕ, ◌-◌, min, Bool, true, false, List, map, length, if◌then◌else◌}
use Rattle.parse.specs.Outcome.{Outcome, accept}
use Rattle.parse.specs.Steps.{◌>>=◌, ◌>>◌, or_refuse}
use Rattle.boxes.specs.Parts.{held}
use Rattle.unit_list.specs.UnitList.{encode}
use Rattle.unit_list.specs.Answers.{list_units}
use Rattle.ptl.specs.declared.VvcPtlRecord.{VvcPtlRecord}
use Rattle.sps.specs.Sps.{parse_sps}
use Rattle.sps.specs.declared.SpsHead.{SpsHead}
use Rattle.vps.specs.Vps.{vps_first_ptl}
use Rattle.grouping.specs.Grouping.{having_type, first_element, grouped}
use Rattle.compact.specs.declared.CompactVvcConfig.{CompactVvcConfig}
use Rattle.full.specs.declared.VvcConfig.{VvcConfig}
use Rattle.expand.specs.declared.Expanded.{Expanded}
use Rattle.expand.specs.declared.Picture.{Picture}

-- step 1: with the flag set, 16 if there is no VPS, then the refusals of the first
unfoldable pub multi_layer_vps : Bool → List (List ℕ) → Outcome (Unit {0})
multi_layer_vps false us = accept tt
multi_layer_vps true us = do
  vps ← or_refuse 16 (first_element (having_type 14 us))
  vps_first_ptl vps
  accept tt

-- step 3: the PTL of the SPS; if it has none, that of the first VPS: 18 if there is no VPS, then its refusals
unfoldable pub ptl_of_sets : SpsHead → List (List ℕ) → Outcome VvcPtlRecord
ptl_of_sets sps us =
    if sps.ptl_present_flag then accept sps.ptl
    else do
      vps ← or_refuse 18 (first_element (having_type 14 us))
      vps_first_ptl vps

-- the head, field by field as in SCOPE 3.8; a depth below 8 is written as 0, a side above 65,535 as 65,535
abbrev pub expanded_head : CompactVvcConfig → Picture → VvcPtlRecord → VvcConfig
expanded_head c pic ptl = record {
  length_size = c.length_size;
  ptl_present_flag = true;
  ols_idx = 0;
  num_sublayers = 1;
  constant_frame_rate = 1;
  chroma_format_idc = pic.chroma_format_idc;
  bit_depth_minus8 = pic.bit_depth - 8;
  native_ptl = ptl;
  max_picture_width = min pic.width 65535;
  max_picture_height = min pic.height 65535;
  avg_frame_rate = 0;
}

-- a head and a list as what expansion returns and writes
abbrev pub with_list : VvcConfig → List ℕ → Expanded × List ℕ
with_list h list = (record { head = h; list_length = length list }, list)

-- the head and list of units: steps 1 to 4, with the refusals after 23 and 21
unfoldable pub expand_units : CompactVvcConfig → Picture → List (List ℕ) → Outcome (Expanded × List ℕ)
expand_units c pic us = do
  multi_layer_vps c.multi_layer_flag us
  unit ← or_refuse 17 (first_element (having_type 15 us))
  sps ← parse_sps unit
  ptl ← ptl_of_sets sps us
  accept (with_list (expanded_head c pic ptl) (encode (grouped us)))

-- `to_full`. Refusals: 23, 21, then those of `expand_units`; with an output 20
unfoldable pub to_full : CompactVvcConfig → Picture → List ℕ → Outcome (Expanded × List ℕ)
to_full c pic list = do
  us ← list_units list
  expand_units c pic (map (held list) us)
