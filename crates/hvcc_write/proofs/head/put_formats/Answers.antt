-- `put_formats` stores the fields from min_spatial_segmentation_idc to bit_depth_chroma_minus8, one after the other.
use Rattle.hvcc_write.proofs.Heads.{formats_stored}
use Rattle.hvcc_write.proofs.head.put_formats.Goals as goal

pub returns : goal.returns
returns c =
    let a = c.args in
    rw (c.put-4.ensures, c.put-3.ensures, c.put-2.ensures, c.put.ensures, c.put_number.ensures, c.from-segmentation.ensures)
    (formats_stored a.h a.out.now)
