-- Internal: the fields of a VPS before its PTL.
use Rattle.std.specs.Prelude.{not, ℕ, eqb}
use Rattle.parse.specs.Parse.{Parser, ◌>>=◌, ◌>>◌, give, refuse_if}
use Rattle.bit_reader.specs.Bits.{u, align}

-- the VPS up to vps_ptl_alignment_zero_bit: vps_max_sublayers_minus1, and the position at which the PTL starts; `vps_sections`
-- (proofs/FirstPtl.antt) ties it to `vps_ptl`
unfoldable pub vps_front : Parser ℕ
vps_front = do
  u 4
  layers ← u 6
  s ← u 3
  refuse_if (not (eqb layers 0)) 15
  u 6
  align
  give s
