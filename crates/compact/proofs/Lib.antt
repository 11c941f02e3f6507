pub mod OneArray
pub mod RecordRead
pub mod RecordBytes
pub mod Facts
