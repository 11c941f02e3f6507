pub mod Item
pub mod Answers
pub mod inner
