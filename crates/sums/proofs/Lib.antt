-- What the loops keep, and what follows from the definitions.
pub mod Counts
pub mod Sums
pub mod Eights
pub mod Starts
