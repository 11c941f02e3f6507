-- `ptl_fits` makes the tests of the definition, in its order.
use native.Mathlib.Omega.{arith}
use Rattle.ptl_record.specs.Write.{ptl_fits}
use Rattle.ptl_record_write.proofs.write.ptl_fits.Goals as goal

pub returns-then-p-le7 : goal.returns-then-p-le7
unfolding ptl_fits
returns-then-p-le7 c =
    grind arith

pub returns-else-p-le7 : goal.returns-else-p-le7
unfolding ptl_fits
returns-else-p-le7 c =
    grind arith
