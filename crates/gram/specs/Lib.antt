pub mod Gram
pub mod Loops
