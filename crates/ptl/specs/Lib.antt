pub mod Ptl
pub mod Answers
