pub mod Words
pub mod Passes
