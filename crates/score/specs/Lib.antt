pub mod Scores
pub mod Together
