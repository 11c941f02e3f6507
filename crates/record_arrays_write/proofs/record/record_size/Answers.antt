-- `record_size` returns the layout of the record of the arrays after the version, or the refusal of the list.
use Rattle.unit_list.proofs.Turns.{arrays_over}
use Rattle.record_arrays_write.specs.inner.Record.{Sizes}
use Rattle.record_arrays_write.proofs.record.record_size.Goals as goal

pub returns : goal.returns
returns c =
    let a = c.args in
    arrays_over _ _ c.start.ensures (λ s o. Sizes a.codec s a.head o c.size_from.result) _ c.in_ok-walk.was c.size_from.ensures
