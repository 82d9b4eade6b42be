pub mod Rows
pub mod Room
pub mod Turned
