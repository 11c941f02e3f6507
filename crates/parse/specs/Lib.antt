pub mod Logic
pub mod Outcome
pub mod Parse
pub mod Steps
pub mod Answers
pub mod inner
