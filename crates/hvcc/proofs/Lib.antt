pub mod HeadRead
pub mod HeadRoundTrip
pub mod Serialized
