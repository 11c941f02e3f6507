-- `put_laid` returns 20 if the output is too short, else it stores the number of arrays and the arrays.
use native.Mathlib.Omega.{arith}
use Rattle.record_arrays_write.proofs.Records.{record_stored}
use Rattle.record_arrays_write.proofs.record.put_laid.Goals as goal

pub returns : goal.returns
returns c =
    let a = c.args in
    λ h o w. record_stored a.codec a.l.arrays.list.now a.l a.out.now (omega arith) _ c.put.ensures _ c.put_arrays.ensures h o w
