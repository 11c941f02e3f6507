pub mod Arrays
pub mod Examples
pub mod Looks
