pub mod Measures
pub mod Stores
