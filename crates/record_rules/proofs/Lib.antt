pub mod Tested
pub mod Both
