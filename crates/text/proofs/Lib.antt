-- Laws on numerals, on lines and on texts laid one after the other.
pub mod Decimals
pub mod Lines
pub mod Lays
