pub mod OneAnswer
pub mod Unposted
