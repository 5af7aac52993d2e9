pub mod Lines
pub mod Cards
pub mod Doubts
pub mod Refused
pub mod CodeLines
