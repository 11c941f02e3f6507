pub mod Bytes
pub mod Parts
pub mod Walk
pub mod Places
pub mod Answers
pub mod inner
