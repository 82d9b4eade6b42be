pub mod Submit
pub mod Apply
