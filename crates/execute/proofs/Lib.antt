pub mod Answers
pub mod Resting
pub mod Tests
