pub mod Listed
pub mod Directory
pub mod Marked
pub mod Found
