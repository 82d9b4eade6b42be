pub mod Terms
pub mod Estimate
pub mod Judge
