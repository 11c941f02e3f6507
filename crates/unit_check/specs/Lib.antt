pub mod UnitCheck
pub mod Answers
pub mod PlainCheck
