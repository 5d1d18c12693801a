pub mod Rows
pub mod Columns
pub mod Gathered
pub mod Filling
pub mod Measuring
pub mod Examples
