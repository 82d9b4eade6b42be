pub mod Sweep
pub mod Whole
