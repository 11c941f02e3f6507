-- `place::number_of_four` is the number of the four bytes from the place on.
use native.Mathlib.Omega.{arith}
use Rattle.boxes.proofs.Numbers.{be_four}
use Rattle.boxes.proofs.place.number_of_four.Goals as goal

pub returns : goal.returns
returns c =
    let a = c.args in
    let e = be_four a.s.now a.at in
    (omega (arith, e), omega arith)
