-- `put_arrays` stores the arrays of a record. Invariant: those stored and those left are the whole.
use Prim.Native.Nat.{◌-◌}
use Rattle.parse.specs.Parse.{times}
use Rattle.record_arrays.specs.Read.{record_array}
use Rattle.record_arrays_read.specs.inner.Arrays.{array_in_list, arrays_in_list}
use Rattle.counted_units.proofs.Repeated.{Storing}
use Rattle.record_arrays_read.proofs.RecordArrays.{arrays_none, arrays_more}
use Rattle.record_arrays_read.proofs.list.put_arrays.Given as goal

abbrev pub invariant-loop : goal.invariant-loop
invariant-loop l = Storing (record_array l.codec) array_in_list arrays_in_list arrays_none arrays_more l.record l.initial.out l.to
    (times l.count (record_array l.codec) l.record l.from) (l.count - l.counter) l.at l.out l.next
