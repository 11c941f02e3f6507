-- `put_list_array` stores the units of an array, and then its length, complete byte and type before them.
use Rattle.unit_list.specs.inner.Walks.{left_in_array}
use Rattle.list_arrays.proofs.Stores.{list_units_puts, list_head_room, list_array_stored}
use Rattle.list_arrays.proofs.put.put_list_array.Goals as goal

pub put_units-end-requires : goal.put_units-end-requires
put_units-end-requires c =
    let a = c.args in
    list_units_puts a.width.bytes a.walk.list.now a.complete a.walk.cursor.unit_type (left_in_array a.walk) a.out.now a.to
    c.requires

pub put_array_head-requires : goal.put_array_head-requires
put_array_head-requires c =
    let a = c.args in (
      a.width.small,
      list_head_room a.width.bytes a.walk.list.now a.complete a.walk.cursor.unit_type (left_in_array a.walk) a.out.now a.to
          c.requires _ _ c.put_units-end.ensures,
    )

pub returns : goal.returns
returns c =
    let a = c.args in
    list_array_stored a.width.bytes a.walk.list.now a.complete a.walk.cursor.unit_type (left_in_array a.walk) a.out.now a.to
    c.requires _ _ c.put_units-end.ensures _ c.put_array_head.ensures
