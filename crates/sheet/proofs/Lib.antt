pub mod Numbers
pub mod Units
pub mod Fields
pub mod Rests
