pub mod Next
pub mod Set
pub mod Links
pub mod Relink
pub mod Group
pub mod Chains
