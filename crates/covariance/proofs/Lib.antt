pub mod Formulas
pub mod Laws
pub mod Examples
pub mod Roots
