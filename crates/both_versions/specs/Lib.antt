pub mod BothVersions
