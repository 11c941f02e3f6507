pub mod Read
pub mod Record
pub mod Write
pub mod inner
