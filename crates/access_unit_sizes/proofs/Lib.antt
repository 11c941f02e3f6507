pub mod Sums
pub mod Parts
pub mod Gathering
pub mod Answering
