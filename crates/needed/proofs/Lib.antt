pub mod Needed
pub mod NotSaid
