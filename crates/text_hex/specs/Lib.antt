pub mod Text
pub mod Packing
pub mod Grammar
pub mod Places
