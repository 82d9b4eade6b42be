pub mod Refused
pub mod Lines
pub mod Conditions
pub mod Told
pub mod Checked
pub mod LineByLine
