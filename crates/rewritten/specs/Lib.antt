pub mod Rewritten
pub mod Hevc
