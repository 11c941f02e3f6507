pub mod UnitList
pub mod Answers
pub mod inner
