pub mod Kept
pub mod Rules
