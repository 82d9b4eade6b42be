pub mod Key
pub mod KeyLaws
pub mod Marks
