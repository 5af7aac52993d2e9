pub mod Noted
pub mod Steps
pub mod Calls
pub mod Stretches
