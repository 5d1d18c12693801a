pub mod Steepness
pub mod Slide
pub mod Examples
