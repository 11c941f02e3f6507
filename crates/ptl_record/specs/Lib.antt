pub mod Read
pub mod Write
pub mod AsWritten
pub mod inner
