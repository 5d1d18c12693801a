pub mod Laid
pub mod Loops
