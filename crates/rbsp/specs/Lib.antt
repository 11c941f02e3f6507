pub mod Rbsp
pub mod inner
