pub mod Happenings
pub mod Telling
pub mod Writes
pub mod inner
