pub mod Storing
pub mod Putting
