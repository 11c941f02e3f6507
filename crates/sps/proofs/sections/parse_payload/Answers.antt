-- `parse_payload` of an SPS reads its head from the first 1,132 bytes of the RBSP, which suffice.
use Prim.Native.Nat.{ℕ}
use mathlib.Core.Path.{ap, ◌∙◌}
use lib.ListN.{length-replicate}
use Rattle.parse.specs.Parse.{outcome}
use Rattle.params.proofs.Look.{enough}
use Rattle.sps.specs.Sps.{sps_head}
use Rattle.sps.proofs.Look.{sps_looks}
use Rattle.sps.proofs.sections.parse_payload.Goals as goal

pub returns : goal.returns
returns c = c.parse_front.ensures ∙ ap outcome (enough sps_head 1132 sps_looks _ _ _ _ (length-replicate {A = ℕ} 1132 0) c.fill_rbsp-n.ensures)
