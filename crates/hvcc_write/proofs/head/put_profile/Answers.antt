-- `put_profile` stores the version and the fields up to general_level_idc, one after the other.
use Rattle.hvcc_write.proofs.Heads.{profile_stored}
use Rattle.hvcc_write.proofs.head.put_profile.Goals as goal

pub returns : goal.returns
returns c =
    let a = c.args in
    rw (c.put-3.ensures, c.put_constraints.ensures, c.put_number.ensures, c.put-2.ensures, c.put.ensures)
    (profile_stored a.h a.out.now c.profile_byte-profile.result c.profile_byte-profile.ensures)
