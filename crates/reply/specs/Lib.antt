pub mod Ending
pub mod Left
pub mod Refusal
