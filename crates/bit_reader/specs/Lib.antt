pub mod Bits
pub mod inner
