pub mod Parsing
pub mod Laws
pub mod Reading
