pub mod Stores
pub mod Numbers
pub mod ReadBack
pub mod Steps
pub mod Examples
