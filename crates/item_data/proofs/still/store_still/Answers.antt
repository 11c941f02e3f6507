-- `still::store_still` writes the length, the header and the stored bytes at the front of the output.
use Rattle.item_data.proofs.Stills.{still_stored}
use Rattle.item_data.proofs.still.store_still.Goals as goal

pub returns : goal.returns
returns c =
    let a = c.args in
    still_stored a.stored.now a.out.now c.put_number.new.out c.copy.new.out _ a.size c.nal_header-header.result
    c.nal_header-header.ensures c.put_number.ensures c.copy.ensures c.copy-2.ensures
