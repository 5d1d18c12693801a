-- The record of a shot: numbers as bytes, the rule on a record, its bytes, what bytes hold, and demand 1 for both calls.
pub mod Layout
pub mod Rule
pub mod Sigma
pub mod Records
pub mod Demand1
pub mod RoundTrip
pub mod Examples
