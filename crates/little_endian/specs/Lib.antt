-- Whole numbers as bytes.
pub mod Bytes
pub mod Examples
