pub mod Bounds
pub mod Collected
pub mod Reasons
