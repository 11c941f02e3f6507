pub mod Reading
pub mod Writing
pub mod Standing
pub mod AsWritten
pub mod RoundTrip
pub mod Examples
