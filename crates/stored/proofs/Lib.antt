-- Laws of numbers and patterns that the proofs cite.
pub mod Hex
