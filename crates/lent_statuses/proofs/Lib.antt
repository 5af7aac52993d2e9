pub mod Copies
pub mod Examples
