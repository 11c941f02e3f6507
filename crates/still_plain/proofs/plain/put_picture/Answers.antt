-- `put_picture` stores the start code, the header and the stored bytes, one after the other.
use Rattle.still_plain.proofs.Storing.{picture_stored}
use Rattle.still_plain.proofs.plain.put_picture.Goals as goal

pub returns : goal.returns
returns c =
    let a = c.args in
    picture_stored a.codes a.stored.now a.out.now _ _ _ _ a.at _ c.nal_header-header.result c.type_code_len-code.ensures.0
    c.nal_header-header.ensures c.put_code.ensures c.put.ensures c.put-2.ensures
    c.copy.ensures
