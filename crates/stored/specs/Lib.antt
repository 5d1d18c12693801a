-- What lists of stored answers say, and when one agrees.
pub mod Floats
pub mod Lines
