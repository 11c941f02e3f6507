pub mod UnitKinds
