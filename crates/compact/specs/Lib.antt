pub mod Compact
pub mod ItemData
pub mod inner
