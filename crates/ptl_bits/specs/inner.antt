-- Internal: what the contracts of internal functions say. No public definition needs it.
pub mod Sections
