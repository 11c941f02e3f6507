pub mod Vps
pub mod inner
