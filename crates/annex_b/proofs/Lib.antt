pub mod Trim
pub mod Streams
pub mod Checked
pub mod RoundTrip
pub mod Examples
