-- What the definitions say, read back; and a law of numbers.
pub mod Laws
pub mod Numbers
