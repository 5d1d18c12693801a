-- The record of an answer, and that every answer of the noise call with 0, 5, 6 or 7 has one that is taken.
pub mod Logging
pub mod Recorded
pub mod Examples
