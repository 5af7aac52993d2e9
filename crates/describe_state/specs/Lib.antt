pub mod States
pub mod Cards
