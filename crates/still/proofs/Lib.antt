pub mod Lists
pub mod Steps
pub mod Pictures
pub mod LocalArrays
