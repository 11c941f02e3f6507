pub mod Stream
pub mod RoundTrip
pub mod Answers
