pub mod Demand1
pub mod Demand2
