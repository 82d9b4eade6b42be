pub mod Rows
pub mod Loop
pub mod Put
pub mod Each
