pub mod Constants
pub mod Rows
pub mod Table
pub mod Places
pub mod Smoothed
