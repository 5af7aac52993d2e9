pub mod Places
pub mod Tallies
pub mod Listed
pub mod Laws
pub mod Several
pub mod Examples
