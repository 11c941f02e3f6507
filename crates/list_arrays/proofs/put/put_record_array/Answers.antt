-- `put_record_array` stores the first byte of an array, its count and its units, one after the other.
use Rattle.unit_list.specs.inner.Walks.{left_in_array}
use Rattle.list_arrays.proofs.Stores.{count_puts, units_puts, array_stored}
use Rattle.list_arrays.proofs.put.put_record_array.Goals as goal

pub put_count-units_at-requires : goal.put_count-units_at-requires
put_count-units_at-requires c =
    let a = c.args in
    (count_puts a.codec a.walk.list.now a.complete a.walk.cursor.unit_type (left_in_array a.walk) a.out.now a.to
    c.requires.2 _ c.array_byte-first.ensures _ c.put.ensures)

pub put_units-requires : goal.put_units-requires
put_units-requires c =
    let a = c.args in
    units_puts a.codec a.walk.list.now a.complete a.walk.cursor.unit_type (left_in_array a.walk) a.out.now a.to
    c.requires.2 _ c.array_byte-first.ensures _ c.put.ensures _ _ c.put_count-units_at.ensures

pub returns : goal.returns
returns c =
    let a = c.args in
    array_stored a.codec a.walk.list.now a.complete a.walk.cursor.unit_type (left_in_array a.walk) a.out.now a.to c.requires.2
    _ c.array_byte-first.ensures _ c.put.ensures _ _ c.put_count-units_at.ensures _ _ c.put_units.ensures
