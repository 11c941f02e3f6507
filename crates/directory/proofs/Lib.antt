pub mod ListEntries
pub mod InUse
pub mod Totals
pub mod Filled
pub mod Instance
