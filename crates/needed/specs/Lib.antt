pub mod Needed
pub mod NotSaid
pub mod InTurn
