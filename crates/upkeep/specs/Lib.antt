pub mod Moves
pub mod Kept
pub mod Added
