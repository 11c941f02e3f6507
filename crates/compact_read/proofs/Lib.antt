pub mod RecordUnits
