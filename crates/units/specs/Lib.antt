pub mod Units
pub mod Sizes
