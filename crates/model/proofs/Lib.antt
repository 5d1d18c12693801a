-- Laws on tables of knots and on the formulas.
pub mod Formulas
pub mod Refusals
pub mod Laws
pub mod Answering
pub mod Examples
pub mod Orders
