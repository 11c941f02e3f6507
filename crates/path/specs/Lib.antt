pub mod Still
pub mod Path
