pub mod Place
pub mod Posted
pub mod Turns
pub mod Post
pub mod Whole
pub mod Ended
