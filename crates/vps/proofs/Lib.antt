pub mod FirstPtl
pub mod Look
pub mod Bounds
