pub mod Causes
pub mod Numbers
pub mod Deciding
pub mod Passing
pub mod Leaving
pub mod Totals
pub mod Demand1
