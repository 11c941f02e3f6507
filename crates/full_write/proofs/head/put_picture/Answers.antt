-- `put_picture` stores three numbers of two bytes, one after the other.
use Rattle.full_write.proofs.Heads.{picture_stored}
use Rattle.full_write.proofs.head.put_picture.Goals as goal

pub returns : goal.returns
returns c =
    let a = c.args in
    rw (c.put_number-3.ensures, c.put_number-2.ensures, c.put_number.ensures, c.from-3.ensures, c.from-2.ensures, c.from.ensures)
    (picture_stored a.out.now a.at a.width a.height a.rate)
