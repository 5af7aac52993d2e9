pub mod Faults
pub mod Identities
pub mod Putting
