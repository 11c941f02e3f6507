pub mod Repeated
pub mod UnitsInList
