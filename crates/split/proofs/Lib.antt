pub mod Spans
pub mod Walks
pub mod Items
pub mod ItemRoundTrip
pub mod Examples
