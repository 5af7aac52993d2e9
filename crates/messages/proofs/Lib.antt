pub mod Laid
pub mod Cases
pub mod Laws
pub mod Examples
