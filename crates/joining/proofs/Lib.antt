-- What the loops keep, and what follows from the definitions.
pub mod Joins
pub mod Noises
pub mod Reasons
