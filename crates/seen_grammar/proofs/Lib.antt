pub mod Lines
pub mod Exactly
pub mod Results
pub mod Examples
