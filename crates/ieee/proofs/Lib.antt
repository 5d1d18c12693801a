-- The definitions are the standard's and Rust's.
pub mod RoundsToEven
pub mod ConvertFormat
pub mod ConvertFromInt
pub mod SquareRoot
pub mod TowardNegative
pub mod TotalOrder
pub mod MaxMin
pub mod Classes
pub mod FromZero
pub mod Examples
-- What these rest on.
pub mod Naturals
pub mod Roots
pub mod Values
pub mod Units
pub mod Patterns
pub mod Grid
pub mod ExactSizes
pub mod Distance
pub mod Comparing
pub mod Cuts
pub mod Bounded
pub mod BoundedRounding
pub mod BoundedOperations
pub mod BoundedPatterns
-- What proofs of code cite, besides.
pub mod Tests
pub mod Reading
pub mod AboveZero
pub mod Narrowing
pub mod SqrtPatterns
pub mod Widened
pub mod FloorPatterns
