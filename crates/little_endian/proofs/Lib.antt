-- Laws on little-endian bytes.
pub mod Laws
pub mod Loops
