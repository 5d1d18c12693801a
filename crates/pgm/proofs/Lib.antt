pub mod Runs
pub mod Steps
pub mod Splitting
pub mod Decimal
pub mod Heads
pub mod Judging
pub mod Laws
