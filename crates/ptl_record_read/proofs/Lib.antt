pub mod Arrays
pub mod Places
