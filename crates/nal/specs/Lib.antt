pub mod Header
pub mod Kinds
pub mod Answers
pub mod inner
