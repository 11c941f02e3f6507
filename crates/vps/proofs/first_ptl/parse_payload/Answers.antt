-- `parse_payload` of a VPS reads its PTL from the first 1,132 bytes of the RBSP, which suffice.
use Prim.Native.Nat.{ℕ}
use mathlib.Core.Path.{ap, ◌∙◌}
use lib.ListN.{length-replicate}
use Rattle.parse.specs.Parse.{outcome}
use Rattle.params.proofs.Look.{enough}
use Rattle.vps.specs.Vps.{vps_ptl}
use Rattle.vps.proofs.Look.{vps_looks}
use Rattle.vps.proofs.first_ptl.parse_payload.Goals as goal

pub returns : goal.returns
returns c = c.parse_rbsp.ensures ∙ ap outcome (enough vps_ptl 1132 vps_looks _ _ _ _ (length-replicate {A = ℕ} 1132 0) c.fill_rbsp-n.ensures)
