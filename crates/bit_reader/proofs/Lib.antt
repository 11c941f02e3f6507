pub mod Numbers
pub mod Looks
pub mod Chain
