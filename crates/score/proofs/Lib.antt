pub mod Filling
pub mod Together
pub mod BySlot
