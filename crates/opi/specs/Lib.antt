pub mod Opi
pub mod Answers
