pub mod Rows
pub mod Smoothing
pub mod Strided
pub mod Disk
pub mod Gradients
pub mod Examples
