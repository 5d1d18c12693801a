pub mod Columns
pub mod Figures
pub mod Loops
