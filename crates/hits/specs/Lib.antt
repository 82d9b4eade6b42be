pub mod Hits
pub mod Due
pub mod Gather
pub mod Judge
