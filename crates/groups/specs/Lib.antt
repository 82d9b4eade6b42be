pub mod Answer
pub mod Collect
pub mod Sums
