pub mod Amounts
pub mod Fees
pub mod Settle
pub mod Steps
