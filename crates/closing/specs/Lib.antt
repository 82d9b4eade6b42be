pub mod Closing
pub mod Walked
