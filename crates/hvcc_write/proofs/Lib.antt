pub mod Heads
pub mod Records
