-- A VPS up to its first PTL as bits (SCOPE 3.7; H.266 7.3.2.3), read from a unit.
use Rattle.std.specs.Prelude.{not, List, ℕ, eqb}
use Rattle.parse.specs.Outcome.{Outcome}
use Rattle.parse.specs.Parse.{Parser, ◌>>=◌, ◌>>◌, refuse_if}
use Rattle.bit_reader.specs.Bits.{u, align}
use Rattle.ptl.specs.Ptl.{profile_tier_level}
use Rattle.ptl.specs.declared.VvcPtlRecord.{VvcPtlRecord}
use Rattle.params.specs.OfUnit.{of_unit}

-- video_parameter_set_rbsp( ) up to its first PTL. With one layer the fields between vps_max_sublayers_minus1 and
-- vps_ptl_alignment_zero_bit are vps_layer_id[ 0 ] alone.
unfoldable pub vps_ptl : Parser VvcPtlRecord
vps_ptl = do
  u 4  -- vps_video_parameter_set_id
  layers ← u 6  -- vps_max_layers_minus1
  s ← u 3  -- vps_max_sublayers_minus1
  refuse_if (not (eqb layers 0)) 15
  u 6  -- vps_layer_id[ 0 ]
  align  -- vps_ptl_alignment_zero_bit
  profile_tier_level s

-- `vps_first_ptl`: 23, 10, then in bit order 11, 15
unfoldable pub vps_first_ptl : List ℕ → Outcome VvcPtlRecord
vps_first_ptl unit = of_unit 14 vps_ptl unit
