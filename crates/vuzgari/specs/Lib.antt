pub mod Codes
pub mod Noise
pub mod Records
pub mod Grey
pub mod GreyDemand1
pub mod Demand1
pub mod Logged
pub mod Examples
