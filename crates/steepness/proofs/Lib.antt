pub mod Constants
pub mod Largests
