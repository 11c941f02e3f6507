pub mod Sizes
pub mod Versions
pub mod Instance
