pub mod Terms
pub mod NoLots
pub mod Lots
