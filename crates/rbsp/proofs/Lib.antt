pub mod Removal
pub mod Below
pub mod Filling
