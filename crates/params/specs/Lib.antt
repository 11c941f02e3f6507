pub mod OfUnit
pub mod inner
