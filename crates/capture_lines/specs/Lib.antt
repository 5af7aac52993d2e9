pub mod Stamps
pub mod Captures
pub mod Faults
