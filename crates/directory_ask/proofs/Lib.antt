pub mod Sums
pub mod Asking
pub mod Searching
