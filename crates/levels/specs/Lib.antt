pub mod Whole
pub mod Filtered
pub mod Clear
pub mod Levels
pub mod Adding
pub mod Examples
