pub mod Moves
pub mod Dues
pub mod Fits
