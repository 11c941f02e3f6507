pub mod Narrow
pub mod Versions
pub mod inner
