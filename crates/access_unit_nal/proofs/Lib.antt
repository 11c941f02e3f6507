pub mod KeptWalk
pub mod Sources
pub mod Parts
