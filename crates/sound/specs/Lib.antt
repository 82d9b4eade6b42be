pub mod Area
pub mod Status
