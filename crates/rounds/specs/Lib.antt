-- The rounds of the image and of a band.
pub mod Numbers
pub mod Rounds
pub mod Examples
