pub mod Shell
pub mod Calls
