pub mod Gathered
pub mod OneCall
pub mod Keeps
