pub mod Ticks
pub mod Clock
