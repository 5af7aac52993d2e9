pub mod Image
pub mod Moments
