pub mod Storing
pub mod Streams
