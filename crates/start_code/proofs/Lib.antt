pub mod FirstPlaces
pub mod StartCodes
pub mod Splittable
