-- What the loops keep, and what follows from the definitions.
pub mod Turns
pub mod Bands
pub mod Bounds
