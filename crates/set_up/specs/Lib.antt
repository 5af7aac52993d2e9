pub mod Prepared
pub mod Lent
pub mod Refused
