pub mod SpsSections
pub mod Look
pub mod Bounds
pub mod Examples
