pub mod FirstLine
pub mod Maps
