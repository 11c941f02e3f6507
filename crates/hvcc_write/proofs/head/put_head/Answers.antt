-- `put_head` stores the parts of a head, one after the other.
use Rattle.hvcc_write.proofs.Heads.{head_stored}
use Rattle.hvcc_write.proofs.head.put_head.Goals as goal

pub returns : goal.returns
returns c =
    let a = c.args in
    rw (c.put.ensures, c.put_number.ensures, c.put_formats.ensures, c.put_profile.ensures, c.from-rate.ensures)
    (head_stored a.h a.out.now c.layers_byte-layers.result c.layers_byte-layers.ensures)
