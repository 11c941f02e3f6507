pub mod Heads
pub mod Given
pub mod Strict
