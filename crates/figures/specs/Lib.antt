pub mod Figures
pub mod Reckoned
