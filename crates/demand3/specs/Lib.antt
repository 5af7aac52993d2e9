pub mod Held
pub mod Refusals
pub mod SettingUp
pub mod Feeding
pub mod GivenForNo
pub mod Compared
pub mod Demand3
pub mod MarkedCases
