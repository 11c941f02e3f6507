-- `size_from` returns the refusals in the order of their tests, or the layout of the record.
use mathlib.Core.Path.{refl, subst}
use Rattle.parse.proofs.PassedOn.{passed_on}
use Rattle.record_arrays_write.specs.inner.Record.{HeadIs}
use Rattle.record_arrays_write.proofs.Records.{arrays_refused, record_sized}
use Rattle.record_arrays_write.proofs.record.size_from.Goals as goal

pub returns-in_err-arrays : goal.returns-in_err-arrays
returns-in_err-arrays c =
    let a = c.args in
    rw (passed_on c.from_residual.result _ c.from_residual.ensures.1)
    (λ h w. arrays_refused a.codec a.walk.list.now a.walk refl c.measure_arrays.result c.measure_arrays.ensures _ c.in_err-arrays.was h)

pub returns : goal.returns
returns c =
    let a = c.args in
    λ h w. rw c.layout.ensures (record_sized a.codec a.walk.list.now a.walk refl c.measure_arrays.result c.measure_arrays.ensures c.in_ok-arrays.arrays c.in_ok-arrays.was h c.in_ok-head_len.head_len
    (subst (HeadIs h) c.in_ok-head_len.was w))
