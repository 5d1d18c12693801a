-- Laws of the order and of rising lists, and what the loops of `insert`, `place` and `quantile` keep.
pub mod Orders
pub mod Rises
pub mod Inserting
