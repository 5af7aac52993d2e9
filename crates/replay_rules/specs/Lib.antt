pub mod Replaying
pub mod GivenForNo
pub mod OneReplay
pub mod KeepingMoments
