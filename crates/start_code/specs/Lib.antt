pub mod StartCode
pub mod Splittable
