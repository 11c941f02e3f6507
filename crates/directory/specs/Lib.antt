pub mod Directory
pub mod Filled
pub mod inner
