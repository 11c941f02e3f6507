pub mod WantedUnits
pub mod Seen
