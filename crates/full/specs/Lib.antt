pub mod Read
pub mod Write
pub mod RoundTrip
pub mod Rules
pub mod Strict
pub mod Answers
