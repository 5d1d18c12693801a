pub mod Text
pub mod Numerals
pub mod Line
pub mod Placed
pub mod Examples
