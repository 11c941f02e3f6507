-- `length::two` is the number of two bytes.
use native.Mathlib.Omega.{arith}
use Rattle.unit_list.proofs.Lengths.{be_two}
use Rattle.unit_list.proofs.length.two.Goals as goal

pub returns : goal.returns
returns c =
    let a = c.args in
    let b = be_two a.s.now a.at in
    (omega arith, omega arith)
