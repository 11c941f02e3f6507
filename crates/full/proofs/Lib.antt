pub mod Parsed
pub mod Ruled
pub mod HeadRoundTrip
pub mod RecordRoundTrip
pub mod RecordLength
pub mod Serialized
