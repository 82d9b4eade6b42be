pub mod Hung
pub mod Own
