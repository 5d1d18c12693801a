pub mod Constants
pub mod Bounds
pub mod Examples
pub mod Negations
