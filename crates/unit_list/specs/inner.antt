-- Internal: what the contracts of internal functions say. No public definition needs it.
pub mod Walk
pub mod Written
pub mod Walks
