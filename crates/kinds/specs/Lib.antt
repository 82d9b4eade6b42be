pub mod Kinds
pub mod Inputs
pub mod Written
pub mod Typed
