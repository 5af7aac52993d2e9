pub mod Parts
pub mod Facts
pub mod Comments
pub mod CodeWords
pub mod Refusals
pub mod Doubts
