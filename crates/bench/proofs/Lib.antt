pub mod Values
pub mod Padding
pub mod Typed
