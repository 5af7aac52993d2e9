pub mod Left
pub mod inner
