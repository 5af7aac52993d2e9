pub mod Layout
pub mod Grammar
pub mod Reading
pub mod Doubts
pub mod Exactly
pub mod Results
pub mod Numbers
pub mod Lengths
