pub mod Post
pub mod Whole
