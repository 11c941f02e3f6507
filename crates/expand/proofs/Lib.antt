pub mod WrittenGroups
pub mod SetsRead
pub mod Expansion
pub mod Units
pub mod Ptls
pub mod Accepted
pub mod Lengths
pub mod Heads
