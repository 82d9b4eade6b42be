pub mod Text
pub mod Page
pub mod Decimal
pub mod Answer
pub mod Told
