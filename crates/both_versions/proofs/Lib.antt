pub mod Units
pub mod BothVersions
