pub mod Expand
pub mod inner
