pub mod Arith
pub mod Ranges
