pub mod Input
pub mod Report
pub mod Remark
pub mod Examples
