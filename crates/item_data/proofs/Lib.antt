pub mod Stills
pub mod Measured
pub mod Examples
