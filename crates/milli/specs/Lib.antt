-- Thousandths of a float.
pub mod Thousandths
pub mod Nearest
pub mod Cases
