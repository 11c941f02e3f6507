pub mod Grouping
pub mod Order
pub mod inner
