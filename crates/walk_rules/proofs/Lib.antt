pub mod Again
pub mod Walks
pub mod Lent
pub mod Locals
pub mod Fronts
pub mod Total
pub mod Frees
