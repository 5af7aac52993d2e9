pub mod Slots
pub mod Examples
