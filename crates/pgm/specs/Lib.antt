pub mod Grammar
pub mod Read
pub mod Found
pub mod File
pub mod Examples
