pub mod Witness
pub mod Pair
