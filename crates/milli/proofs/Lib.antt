-- Laws on thousandths.
pub mod Patterns
pub mod Nearest
pub mod Most
