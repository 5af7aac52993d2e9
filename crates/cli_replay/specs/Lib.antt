pub mod Counting
pub mod Sessions
