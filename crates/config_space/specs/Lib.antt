pub mod Functions
pub mod inner
