pub mod Sps
pub mod inner
