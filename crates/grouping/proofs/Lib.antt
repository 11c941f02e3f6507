pub mod Grouping
pub mod GroupedFits
pub mod Walks
pub mod OfType
pub mod FirstAppearance
pub mod ArrayWalk
pub mod Opening
