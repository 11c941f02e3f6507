pub mod ConstraintInfo
pub mod SublayerLevels
pub mod SubProfileValues
pub mod Whole
pub mod Bounds
