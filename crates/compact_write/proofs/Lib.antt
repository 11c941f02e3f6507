pub mod ListUnits
