pub mod Remark
pub mod Grey
pub mod Examples
