pub mod Lent
pub mod SettingUp
pub mod Stopping
