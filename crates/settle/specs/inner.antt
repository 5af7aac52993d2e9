pub mod Next
pub mod Prepared
