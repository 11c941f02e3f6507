-- `record_units::put_list` writes the list at the front of the output.
use Rattle.parse.specs.Parse.{outcome}
use Rattle.compact.specs.inner.Units.{record_units}
use Rattle.compact_read.proofs.RecordUnits.{list_stored}
use Rattle.compact_read.proofs.record_units.put_list.Goals as goal

pub returns : goal.returns
returns c =
    let a = c.args in
    list_stored a.«record».now (outcome (record_units a.«record».now a.count)) a.out.now c.put.new.out
    c.put_array_head.new.out _ a.room 7
    c.requires.2 c.requires.3 c.put.ensures c.put_array_head.ensures c.put_units.ensures.written
