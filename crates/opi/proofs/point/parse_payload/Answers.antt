-- `parse_payload` of an OPI reads the operating point from the first 9 bytes of the RBSP, which suffice.
use Prim.Native.Nat.{ℕ}
use mathlib.Core.Path.{ap, ◌∙◌}
use lib.ListN.{length-replicate}
use Rattle.params.proofs.Look.{enough}
use Rattle.opi.specs.Opi.{where_read, opi_point}
use Rattle.opi.proofs.Look.{opi_looks}
use Rattle.opi.proofs.point.parse_payload.Goals as goal

pub returns : goal.returns
returns c = c.parse_rbsp.ensures ∙ ap where_read (enough opi_point 9 opi_looks _ _ _ _ (length-replicate {A = ℕ} 9 0) c.fill_rbsp-n.ensures)
