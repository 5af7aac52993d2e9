mod Steps
mod Loop
mod Turns
pub mod Pieces
mod Walk
pub mod Whole
pub mod First
pub mod Rooms
pub mod Where
mod Examples
