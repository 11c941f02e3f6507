pub mod Fitting
pub mod Reading
pub mod TotalsPlus
pub mod Adding
pub mod Filling
