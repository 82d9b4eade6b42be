pub mod Ranges
pub mod Signed
pub mod Rules
pub mod Beyond
pub mod Meaning
pub mod Typed
