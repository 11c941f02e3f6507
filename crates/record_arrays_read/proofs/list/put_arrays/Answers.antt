-- `put_arrays` stores the arrays of a record. Invariant: those stored and those left are the whole.
use Prim.Native.Nat.{◌+◌, ◌-◌}
use native.Mathlib.Omega.{arith}
use Rattle.record_arrays.specs.Read.{record_array}
use Rattle.record_arrays_read.specs.inner.Arrays.{array_in_list, arrays_in_list}
use Rattle.counted_units.proofs.Repeated.{storing_one, storing_stored, storing_done}
use Rattle.record_arrays_read.proofs.RecordArrays.{arrays_none, arrays_more}
use Rattle.record_arrays_read.proofs.list.put_arrays.Goals as goal

pub put_array-stored-requires : goal.put_array-stored-requires
put_array-stored-requires c = (
  c.requires.0,
  storing_one (record_array _) array_in_list arrays_in_list arrays_none arrays_more _ _ _ _ (c.args.count - c.loop.counter) c.loop.at c.loop.out c.loop.next c.loop.invariant
      (c.args.count - (c.loop.counter + 1)) (omega arith),
)

pub loop-preserved : goal.loop-preserved
loop-preserved c =
    storing_stored (record_array _) array_in_list arrays_in_list arrays_none arrays_more _ _ _ _ (c.args.count - c.loop.counter) c.loop.at c.loop.out c.loop.next c.loop.invariant
    (c.args.count - (c.loop.counter + 1)) (omega arith) _ c.put_array-stored.result c.put_array-stored.ensures

pub returns : goal.returns
returns c =
    (storing_done (record_array _) array_in_list arrays_in_list arrays_none arrays_more _ _ _ _ (c.args.count - c.loop.counter) c.loop.at c.loop.out c.loop.next c.loop.invariant
    (omega arith)).written
