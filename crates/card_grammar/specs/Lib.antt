pub mod Names
pub mod SoFar
pub mod Grammar
pub mod Card
