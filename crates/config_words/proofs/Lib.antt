pub mod Spans
pub mod Changing
