pub mod Grammar
pub mod Reading
pub mod Exactly
pub mod Results
