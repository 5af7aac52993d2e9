pub mod Comments
pub mod Kept
pub mod Laws
pub mod Examples
