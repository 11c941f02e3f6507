pub mod Units
pub mod Look
