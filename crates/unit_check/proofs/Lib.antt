pub mod ForbiddenBytes
pub mod Checks
pub mod Examples
