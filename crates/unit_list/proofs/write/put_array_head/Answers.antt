-- `write::put_array_head` leaves the length, complete and the type from the place on.
use Rattle.unit_list.proofs.Written.{head_written_lem}
use Rattle.unit_list.proofs.write.put_array_head.Goals as goal

pub returns : goal.returns
returns c =
    let a = c.args in
    head_written_lem a.out.now c.put_number.new.out c.put.new.out c.put-2.new.out a.at a.width a.rest a.complete a.unit_type
    c.put_number.ensures c.put.ensures c.put-2.ensures
