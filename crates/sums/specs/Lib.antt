-- The constants, the admitted windows and the start of the rounds; then what the loops over eight blocks need.
pub mod Numbers
pub mod Admitted
pub mod Start
pub mod Examples
pub mod Lanes
