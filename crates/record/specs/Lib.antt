pub mod Signed
pub mod Bytes
pub mod Symbol
pub mod Spelling
pub mod Codes
pub mod Grid
