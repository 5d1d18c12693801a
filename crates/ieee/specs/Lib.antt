-- What IEEE 754-2019 and Rust say of the operations that Rattle's floats lack, over the format.
pub mod Convert
pub mod Sqrt
pub mod Order
pub mod Floor
pub mod Rounding
pub mod Numbers
pub mod FromZero
