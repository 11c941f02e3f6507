pub mod AccessUnit
pub mod Streams
pub mod Answers
pub mod inner
