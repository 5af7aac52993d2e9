pub mod Putting
mod Numerals
pub mod Groups
mod Examples
pub mod Laws
