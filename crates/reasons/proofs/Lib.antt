-- Laws on sentences.
pub mod Short
pub mod Found
