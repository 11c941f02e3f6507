pub mod Stills
pub mod inner
