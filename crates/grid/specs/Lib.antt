pub mod Step
pub mod Grid
pub mod Needed
