pub mod RecordArrays
pub mod Lists
pub mod Given
