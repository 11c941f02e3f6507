pub mod Targets
pub mod KeptUnits
pub mod Streams
pub mod Order
pub mod OneUnit
pub mod Claims
pub mod Examples
