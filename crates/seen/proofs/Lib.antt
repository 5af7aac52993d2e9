pub mod Sizes
pub mod Rests
