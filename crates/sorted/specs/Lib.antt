pub mod First
pub mod Insert
pub mod Order
