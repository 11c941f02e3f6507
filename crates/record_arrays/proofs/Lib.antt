pub mod ArraysRoundTrip
pub mod RecordLength
pub mod RecordRead
pub mod Parsed
