-- `put_constraints` stores six bytes, as a number of two and one of four.
use Rattle.hvcc_write.proofs.Heads.{six_stored}
use Rattle.hvcc_write.proofs.head.put_constraints.Goals as goal

pub returns : goal.returns
returns c =
    let a = c.args in
    rw (c.put_number-2.ensures, c.put_number.ensures) (six_stored a.out.now a.v)
